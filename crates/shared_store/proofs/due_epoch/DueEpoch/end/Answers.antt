use Rattle.std.proofs.Common.{List, false, true, true≢false, refl, sym, subst, ap}
use Rattle.shared_store.specs.declared.entry.LifeEntry.{LifeEntry}
use Rattle.shared_store.specs.declared.entry.LifeEntry.TheVariants.{LogFailed, CommitsTaken}
use Rattle.shared_store.specs.declared.entry.TheConstants.{LOG_SEAT}
use Rattle.shared_store.specs.Holding.{IsKept}
use Rattle.shared_store.specs.Lives.{has_stop}
use Rattle.shared_store.specs.Served.{Standing}
use Rattle.teb_rules.specs.Epochs.{IsDrained}
use Rattle.shared_store.specs.Stages.{first_stage}
use Rattle.shared_store.proofs.Adding.{grows_on, grows_one}
use Rattle.shared_store.proofs.Living.{stop_taken}
use Rattle.shared_store.proofs.Keeping.{kept_still}
use Rattle.shared_store.proofs.due_epoch.DueEpoch.end.Goals as goal

pub invariant_of-result : goal.invariant_of-result
invariant_of-result g c =
    let f = c.in-Err.failed in
    let keep = g.S.EpochServer.keeps f.log in
    let mid = f.hosted.entries.items in
    let new = c.stop.new.self in
    record {
      running = f.failed;
      told = λ _. c.stop.ensures.stopped;
      kept = kept_still keep (first_stage (g.S.EpochServer.standing new.first.value)) true true f.total mid new.entries.items (stop_taken mid new.entries.items c.stop.ensures.entries) (λ y. y)
          (λ y. absurd (true≢false y))
          (subst (λ x. ∥ IsKept keep (first_stage (g.S.EpochServer.standing x.value)) true f.total mid ∥₁) (sym c.stop.ensures.first) f.kept);
    }

pub returns-in-Err-clause-grows : goal.returns-in-Err-clause-grows
returns-in-Err-clause-grows g c =
    let old = c.args.self.running.hosted.entries.items in
    let mid = c.in-Err.failed.hosted.entries.items in
    let new = c.stop.new.self.entries.items in
    grows_on LOG_SEAT old mid new (grows_one LOG_SEAT CommitsTaken old mid refl c.in-Err.ensures.failed.0.entries) (grows_one LOG_SEAT LogFailed mid new refl c.stop.ensures.entries)

pub invariant_of-epoch : goal.invariant_of-epoch
invariant_of-epoch g c = record { drained = subst (λ (x : Standing). IsDrained x.events) (sym c.in-Ok.ensures.written.0.standing) c.args.self.drained }

pub invariant_of-result-2 : goal.invariant_of-result-2
invariant_of-result-2 g c =
    let next = c.begin_next-hosted.result in
    let keep = g.S.EpochServer.keeps next.log in
    let commits = c.in-Ok.written.hosted.commits in
    let new = c.stop_if.new.self in
    record {
      running = sym c.has_failed-failed.ensures;
      told = c.stop_if.ensures.stops;
      kept = kept_still keep (first_stage (g.S.EpochServer.standing new.first.value)) false c.has_failed-failed.result commits next.hosted.entries.items new.entries.items
          c.stop_if.ensures.taken (λ _. refl) (λ f. ap (λ (l : List LifeEntry). has_stop l) (c.stop_if.ensures.runs f))
          (subst (λ n. ∥ IsKept keep (first_stage (g.S.EpochServer.standing new.first.value)) false n next.hosted.entries.items ∥₁) c.begin_next-hosted.ensures.same.1
          (subst (λ f. ∥ IsKept keep (first_stage (g.S.EpochServer.standing f.value)) false next.hosted.commits next.hosted.entries.items ∥₁) (sym c.stop_if.ensures.first) next.kept));
    }

pub returns-clause-grows : goal.returns-clause-grows
returns-clause-grows g c =
    let old = c.args.self.running.hosted.entries.items in
    let mid = c.in-Ok.written.hosted.entries.items in
    let next = c.begin_next-hosted.result.hosted.entries.items in
    let new = c.stop_if.new.self.entries.items in
    grows_on LOG_SEAT old mid new (grows_one LOG_SEAT CommitsTaken old mid refl c.in-Ok.ensures.written.0.entries)
    (grows_on LOG_SEAT mid next new c.begin_next-hosted.ensures.grows c.stop_if.ensures.grows)
