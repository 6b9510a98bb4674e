use Rattle.std.proofs.Common.{Err, refl, sym, ap, subst, ◌∙◌}
use Rattle.shared_store.specs.declared.entry.LifeEntry.TheVariants.{EpochEnded}
use Rattle.shared_store.specs.declared.error.UnaskedError.{UnaskedError}
use Rattle.shared_store.specs.Lives.{taken_of}
use Rattle.shared_store.specs.Served.{Standing}
use Rattle.teb_rules.specs.Epochs.{IsDrained}
use Rattle.shared_store.specs.Stages.{first_stage}
use Rattle.shared_store.proofs.Adding.{no_calls, no_calls_epoch_ended}
use Rattle.shared_store.proofs.Courses.{taken_all}
use Rattle.shared_store.proofs.Living.{kept_on, kept_epoch_ended, life_same, life_epoch_ended, waiting_on, waiting_epoch_ended}
use Rattle.shared_store.proofs.Reasons.{drained_cause}
use Rattle.shared_store.proofs.Results.{on_err, on_ok}
use Rattle.shared_store.proofs.due_epoch.WrittenEpoch.begin_next.Goals as goal

pub invariant_of-hosted : goal.invariant_of-hosted
invariant_of-hosted g c =
    let old = c.args.self.written.hosted in
    let first = first_stage (g.S.EpochServer.standing old.first.value) in
    let x = g.S.EpochServer.standing old.server in
    let y = g.S.EpochServer.standing c.next_epoch-server.result.0 in
    let b = on_err _ c.next_epoch-server.result.2 c.in-Err.error c.in-Err.is c.next_epoch-server.ensures.same in
    record {
      life = life_same first x y old.past old.stopped old.commits old.entries.items old.life b.0;
      waiting = waiting_on first x y old.past old.commits old.stopped old.entries.items old.life b.0 c.args.self.written.taken (g.S.EpochServer.waits c.next_epoch-server.result.0) b.1;
    }

pub invariant_of-hosted-2 : goal.invariant_of-hosted-2
invariant_of-hosted-2 g c =
    let old = c.args.self.written.hosted in
    let first = first_stage (g.S.EpochServer.standing old.first.value) in
    let x = g.S.EpochServer.standing old.server in
    let y = g.S.EpochServer.standing c.next_epoch-server.result.0 in
    let b = on_ok _ c.next_epoch-server.result.2 c.in_default.field-0 c.in_default.is c.next_epoch-server.ensures.begun in
    record {
      life = life_epoch_ended first x y old.past old.commits old.stopped old.entries.items c.push.new.self.items old.life c.args.self.written.runs b.0 c.push.ensures;
      waiting = waiting_epoch_ended first x y old.past old.commits old.stopped old.entries.items c.push.new.self.items old.life c.args.self.written.runs b.0 c.push.ensures
          (g.S.EpochServer.waits c.next_epoch-server.result.0) b.1;
    }

pub invariant_of-result : goal.invariant_of-result
invariant_of-result g c =
    let old = c.args.self.written.hosted in
    let first = first_stage (g.S.EpochServer.standing old.first.value) in
    let x = g.S.EpochServer.standing old.server in
    let n = c.next_epoch-server in
    let y = g.S.EpochServer.standing n.result.0 in
    let b = on_err _ n.result.2 c.in-Err.error c.in-Err.is n.ensures.same in
    record {
      kept = kept_on first x y old.past old.commits old.stopped old.entries.items old.life b.0 c.args.self.written.taken (g.S.EpochServer.keeps n.result.1) c.args.self.written.runs b.2;
      taken = c.args.self.written.taken;
    }

pub invariant_of-result-2 : goal.invariant_of-result-2
invariant_of-result-2 g c =
    let old = c.args.self.written.hosted in
    let first = first_stage (g.S.EpochServer.standing old.first.value) in
    let x = g.S.EpochServer.standing old.server in
    let n = c.next_epoch-server in
    let y = g.S.EpochServer.standing n.result.0 in
    let b = on_ok _ n.result.2 c.in_default.field-0 c.in_default.is n.ensures.begun in
    record {
      kept = kept_epoch_ended first x y old.past old.commits old.stopped old.entries.items c.push.new.self.items old.life c.args.self.written.runs b.0 c.push.ensures
          (g.S.EpochServer.keeps n.result.1) b.2;
      taken = ap taken_of c.push.ensures ∙ (taken_all old.entries.items EpochEnded refl ∙ sym c.push.ensures);
    }

pub returns-in-Err-clause-calls : goal.returns-in-Err-clause-calls
returns-in-Err-clause-calls g c = no_calls c.args.self.written.hosted.entries.items

pub returns-in-Err-clause-begun : goal.returns-in-Err-clause-begun
returns-in-Err-clause-begun g c =
    let n = c.next_epoch-server in
    let f = c.in-Err.error in
    let same = (on_err _ n.result.2 f c.in-Err.is n.ensures.same).0 in
    drained_cause (g.S.EpochServer.failed n.result.1) (g.S.EpochServer.standing n.result.0).events f (subst (λ (x : Standing). IsDrained x.events) (sym same) c.args.self.drained)
    (λ e. n.ensures.stopped (c.in-Err.is ∙ ap (λ (x : UnaskedError). Err x) e))

pub returns-clause-calls : goal.returns-clause-calls
returns-clause-calls g c = no_calls_epoch_ended c.args.self.written.hosted.entries.items c.push.new.self.items c.push.ensures

pub returns-clause-begun : goal.returns-clause-begun
returns-clause-begun g c =
    let n = c.next_epoch-server in
    let b = on_ok _ n.result.2 c.in_default.field-0 c.in_default.is n.ensures.begun in
    record { runs = b.3; begun = b.0.events; kept = b.2 }
