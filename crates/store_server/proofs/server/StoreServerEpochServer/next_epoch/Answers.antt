use Rattle.std.proofs.Common.{◌≡◌, Err, false, [], ◌∙◌, ap, subst, sym}
use Rattle.commit_laws.specs.Commits.{commit_count}
use Rattle.tree_toml.specs.SetupText.{setup_of_text}
use Rattle.epoch_store.specs.Queue.{Queue}
use Rattle.epoch_store.proofs.Answering.{get_err, get_ok}
use Rattle.engine_core.specs.EngineModel.{EngineModel}
use Rattle.engine_store.specs.Halves.{AreCommitsSince, KeepsCommits}
use Rattle.engine_store.specs.declared.error.NextError.{NextError}
use Rattle.shared_store.specs.Served.{IsBegun}
use Rattle.store_server.specs.Standings.{standing_of}
use Rattle.store_server.specs.Trees.{IsTreeOf, IsWellNamed}
use Rattle.store_server.proofs.Faults.{disk_stops}
use Rattle.store_server.proofs.Going.{begins_halves, is_of_log, none_waits, of_match, of_match_err, of_ok, stays_halves}
use Rattle.store_server.proofs.server.StoreServerEpochServer.next_epoch.Goals as goal

pub next_epoch-queue-requires-clause-none : goal.next_epoch-queue-requires-clause-none
next_epoch-queue-requires-clause-none g c = none_waits c.args.self.queue.engine.store c.args.self.queue.engine.events c.args.self.queue.waiting c.requires.taken

pub invariant_of-server : goal.invariant_of-server
invariant_of-server g c =
    let o = c.next_epoch-queue in
    let back = sym (get_err o.result.2 c.in-Err.why c.in-Err.is o.ensures.back) in
    record {
      under = subst (λ (q : Queue EngineModel). IsTreeOf c.args.self.tree.items q.engine.store q.engine.names) back c.args.self.under;
      named = subst (λ (q : Queue EngineModel). IsWellNamed q.engine.store q.engine.names) back c.args.self.named;
    }

pub returns-in-Ok-begun-clause-begun : goal.returns-in-Ok-begun-clause-begun
returns-in-Ok-begun-clause-begun g c =
    let d = g.D.Disk in
    let old = c.args.self.queue.engine in
    let o = c.next_epoch-queue in
    let past = c.in-Ok-begun._past in
    let is = c.in-Ok-begun.is in
    let k = o.result.1 in
    let may = of_match o.result.2 past _ _ is o.ensures.refused in
    let begun = of_ok o.result.2 past _ is o.ensures.begun in
    subst (λ (q : Queue EngineModel). IsBegun (standing_of old) (standing_of q.engine) × ∥ AreCommitsSince q.engine.store [] q.engine.events q.waiting ∥₁
    × ∥ KeepsCommits d.seen d.may_leave q.engine.store [] 0 k ∥₁ × (k.stopped ≡ false)) (sym c.new-in-Ok-begun.ensures.queue)
    (begins_halves d.seen d.may_leave c.args.self.tree.items c.in-Ok.setup old o.result.0 c.args.log k c.args.self.under (ap setup_of_text (sym c.deref.ensures.value) ∙ c.in-Ok.ensures.read) may
    begun.1 begun.2 c.requires.kept
    (λ n keeps. get_ok o.result.2 past is (o.ensures.kept n keeps)) (get_ok o.result.2 past is o.ensures.running))

pub returns-in-Err-clause-same : goal.returns-in-Err-clause-same
returns-in-Err-clause-same g c =
    let d = g.D.Disk in
    let o = c.next_epoch-queue in
    let why = c.in-Err.why in
    let is = c.in-Err.is in
    stays_halves d.seen d.may_leave c.args.self.queue o.result.0 c.args.log o.result.1 (get_err o.result.2 why is o.ensures.back) c.requires.taken c.requires.kept
    (λ n keeps. get_err o.result.2 why is (o.ensures.not_begun n keeps))

pub not_begun-requires : goal.not_begun-requires
not_begun-requires g c =
    let old = c.args.self.queue.engine in
    let o = c.next_epoch-queue in
    let why = c.in-Err.why in
    let is = c.in-Err.is in
    let tables = (c.args.self.under _ (ap setup_of_text (sym c.deref.ensures.value) ∙ c.in-Ok.ensures.read)).2 in
    is_of_log c.args.log.layout old c.in-Ok.setup.names.tables why (of_match_err o.result.2 why _ _ is o.ensures.refused) c.requires.drained (sym tables) (λ e. o.ensures.ran (is ∙ ap Err e))

pub returns-in-Err-clause-stopped : goal.returns-in-Err-clause-stopped
returns-in-Err-clause-stopped g c = λ e.
    let disk = disk_stops c.not_begun.result c.in-Err.why c.not_begun.ensures e in
    (c.next_epoch-queue.ensures.fault (c.in-Err.is ∙ ap (λ (w : NextError). Err w) disk)).0
