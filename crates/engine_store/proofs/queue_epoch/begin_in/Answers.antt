use Rattle.std.proofs.Common.{◌≡◌, ap, subst}
use Rattle.teb_rules.specs.declared.names.Cell.{Cell}
use Rattle.teb_rules.specs.names.Rows.{row_of}
use Rattle.record_journal.specs.Journal.{after_records}
use Rattle.record_journal.proofs.Moments.{started}
use Rattle.commit_laws.specs.Records.{records_of}
use Rattle.engine_core.specs.EngineModel.{EngineModel}
use Rattle.engine_store.specs.Next.{IsRefusal}
use Rattle.engine_store.specs.Telling.{TellsCommits}
use Rattle.engine_store.proofs.Causes.{engine_cause}
use Rattle.engine_store.proofs.Halves.{begins_empty, keeps_on}
use Rattle.engine_store.proofs.queue_epoch.begin_in.Goals as goal

pub returns-in-Err-clause-refused : goal.returns-in-Err-clause-refused
returns-in-Err-clause-refused g c =
    let was = c.args.queue.now.engine.engine in
    let tables = c.args.setup.names.tables in
    engine_cause c.args.journal.now.layout was tables c.in-Err.why
    (subst (λ (e : EngineModel). IsRefusal e tables c.in-Err.why) (ap (λ (r : _). r.engine) c.engine.ensures) c.in-Err.ensures.refused)

pub returns-in-Err-clause-any_moment : goal.returns-in-Err-clause-any_moment
returns-in-Err-clause-any_moment g c n was =
    let d = g.D.Disk in
    let e = c.args.queue.now.engine.engine in
    let j = c.args.journal.now in
    started d.moment d.left_since j.disk (TellsCommits j.layout e.store e.events n) (λ image left. was.keeps.each image (g.met.D.Disk.only_now j.disk image left))

pub returns-in-Ok-next_epoch-clause-kept : goal.returns-in-Ok-next_epoch-clause-kept
returns-in-Ok-next_epoch-clause-kept g c n was =
    let d = g.D.Disk in
    let e = c.args.queue.now.engine.engine in
    let o = c.in-Ok-next_epoch.ensures in
    begins_empty d.seen d.may_leave c.in-Ok.engine.store c.next_epoch.new.self.engine.engine.store c.next_epoch.new.journal (ap (λ (r : _). r.engine.store) o.begun.1)
    (o.begins (row_of e.store.rows) (records_of e.store.setup e.events) n was.keeps) o.running.1

pub returns-in-Ok-next_epoch-clause-any_moment : goal.returns-in-Ok-next_epoch-clause-any_moment
returns-in-Ok-next_epoch-clause-any_moment g c n was =
    let e = c.args.queue.now.engine.engine in
    c.next_epoch.ensures.any_moment (row_of e.store.rows) (records_of e.store.setup e.events) n was.keeps
    (subst (λ (m : EngineModel). (x : Cell) → row_of c.in-Ok.engine.store.rows x ≡ after_records (records_of m.store.setup m.events) (row_of m.store.rows) x)
    (ap (λ (r : _). r.engine) c.engine.ensures) c.in-Ok.ensures.rows)

pub returns-in-Err-next_epoch-clause-not_begun : goal.returns-in-Err-next_epoch-clause-not_begun
returns-in-Err-next_epoch-clause-not_begun g c n was =
    let d = g.D.Disk in
    let e = c.args.queue.now.engine.engine in
    keeps_on d.seen d.may_leave e.store e.events n c.args.journal.now c.next_epoch.new.journal was
    (c.next_epoch.ensures.kept (row_of e.store.rows) (records_of e.store.setup e.events) n was.keeps
    (subst (λ (m : EngineModel). (x : Cell) → row_of c.in-Ok.engine.store.rows x ≡ after_records (records_of m.store.setup m.events) (row_of m.store.rows) x)
    (ap (λ (r : _). r.engine) c.engine.ensures) c.in-Ok.ensures.rows))
    c.in-Err-next_epoch.ensures.back.2

pub returns-in-Err-next_epoch-clause-any_moment : goal.returns-in-Err-next_epoch-clause-any_moment
returns-in-Err-next_epoch-clause-any_moment g c n was =
    let e = c.args.queue.now.engine.engine in
    c.next_epoch.ensures.any_moment (row_of e.store.rows) (records_of e.store.setup e.events) n was.keeps
    (subst (λ (m : EngineModel). (x : Cell) → row_of c.in-Ok.engine.store.rows x ≡ after_records (records_of m.store.setup m.events) (row_of m.store.rows) x)
    (ap (λ (r : _). r.engine) c.engine.ensures) c.in-Ok.ensures.rows)
