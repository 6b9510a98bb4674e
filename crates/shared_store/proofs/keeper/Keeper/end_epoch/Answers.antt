use Rattle.std.proofs.Common.{rules, ◌+◌, ◌-◌, ◌≤◌, ◌∙◌, false, refl, subst}
use Rattle.turn_lock.specs.Seats.{view_of}
use Rattle.shared_store.specs.declared.entry.TheConstants.{LOG_SEAT}
use Rattle.shared_store.specs.Holding.{IsKept}
use Rattle.shared_store.specs.Stages.{first_stage}
use Rattle.shared_store.proofs.Adding.{grows_none}
use Rattle.shared_store.proofs.Keeping.{kept_of, log_seat_on, total_now}
use Rattle.shared_store.proofs.Turning.{Took, kept_found, kept_left, log_turn}
use Rattle.shared_store.proofs.keeper.Keeper.end_epoch.Goals as goal

pub invariant_of-running : goal.invariant_of-running
invariant_of-running g c =
    let old = c.args.self in
    let x = c.enter-hosted.result in
    let v0 = view_of old.seat in
    let v1 = view_of c.enter-hosted.new.seat in
    let keep = g.S.EpochServer.keeps old.log in
    let t : Took LOG_SEAT v0 v1 x x = record {
      owner = old.seated.owner;
      follows = c.enter-hosted.ensures.follows;
      enters = c.enter-hosted.ensures.enters;
      grows = grows_none LOG_SEAT x.entries.items;
      first = refl;
    } in
    record {
      running = old.running ∙ c.if-self.false;
      kept = kept_found v0 v1 x x _ t refl keep false old.total (kept_of keep old.failed old.total v0 c.if-self.false old.kept);
    }

pub invariant_of-keeper : goal.invariant_of-keeper
invariant_of-keeper g c =
    let old = c.args.self in
    let x = c.enter-hosted.result in
    let r = c.end_if_due-hosted.result in
    let y = r.hosted in
    let total = r.total in
    let e = c.end_if_due-hosted.ensures in
    let v0 = view_of old.seat in
    let v1 = view_of c.enter-hosted.new.seat in
    let w = view_of c.leave.new.seat in
    let t : Took LOG_SEAT v0 v1 x y = record {
      owner = old.seated.owner;
      follows = c.enter-hosted.ensures.follows;
      enters = c.enter-hosted.ensures.enters;
      grows = e.grows;
      first = e.first;
    } in
    let enough : old.turns - 1 + 1 ≤ old.turns = search rules in
    record {
      outside = c.leave.ensures.seat.1;
      seated = log_seat_on old.turns (old.turns - 1) v0 w enough (log_turn LOG_SEAT v0 v1 x y w t c.leave.ensures.view) old.seated;
      told = total_now old.entries.items c.push.new.self.items (record { by = c.args.by; total = total }) old.total c.push.ensures old.told e.more;
      running = r.running;
      kept = kept_left v0 v1 x y w t c.leave.ensures.view (g.S.EpochServer.keeps r.log) r.failed total
          (subst (λ f. ∥ IsKept (g.S.EpochServer.keeps r.log) (first_stage (g.S.EpochServer.standing f.value)) r.failed total y.entries.items ∥₁) e.first r.kept);
    }
