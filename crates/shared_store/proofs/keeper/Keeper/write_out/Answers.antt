use Rattle.std.proofs.Common.{rules, ◌+◌, ◌-◌, ◌≤◌, ◌∙◌, sym, subst}
use Rattle.turn_lock.specs.Seats.{base_in, view_of}
use Rattle.shared_store.specs.Hosting.{first_of}
use Rattle.shared_store.specs.Seated.{IsKeptAt}
use Rattle.shared_store.proofs.Keeping.{kept_at_err, kept_at_ok, kept_of, less_at, log_seat_on, log_seat_on_two, runs_at_err, runs_at_ok, total_now}
use Rattle.shared_store.proofs.keeper.Keeper.write_out.Goals as goal

pub invariant_of-self : goal.invariant_of-self
invariant_of-self g c =
    let old = c.args.self.now in
    let v = view_of old.seat in
    let w = view_of c.take_batch-batch.new.seat in
    let x = view_of c.stop_front.new.seat in
    let keep = g.S.EpochServer.keeps old.log in
    let then_keep = g.S.EpochServer.keeps c.write.new.log in
    let brings = g.S.EpochServer.brings c.take_batch-batch.result.0 in
    let k = kept_of keep old.failed old.total v c.if-self.false old.kept in
    let t = c.take_batch-batch.ensures in
    let enough : old.turns - 2 + 2 ≤ old.turns = search rules in
    record {
      outside = c.stop_front.ensures.seat.1;
      seated = log_seat_on_two old.turns (old.turns - 2) v w x enough t.turn c.stop_front.ensures.turn old.seated;
      told = old.told;
      running = runs_at_err keep then_keep brings old.total c.take_batch-batch.result.1 v w t.turn.base k t.batch (g.S.EpochServer.failed c.write.new.log) c.write.result c.in-Err._error c.in-Err.is
          c.write.ensures.not_kept (base_in first_of c.args.turn.now) c.requires.seat.1;
      kept = kept_at_err keep then_keep brings old.total c.take_batch-batch.result.1 v w t.turn.base k t.batch (g.S.EpochServer.failed c.write.new.log) c.write.result c.in-Err._error c.in-Err.is
          c.write.ensures.not_kept x c.stop_front.ensures.turn.base c.stop_front.ensures.none;
    }

pub invariant_of-self-2 : goal.invariant_of-self-2
invariant_of-self-2 g c =
    let old = c.args.self.now in
    let v = view_of old.seat in
    let w = view_of c.take_batch-batch.new.seat in
    let keep = g.S.EpochServer.keeps old.log in
    let then_keep = g.S.EpochServer.keeps c.write.new.log in
    let brings = g.S.EpochServer.brings c.take_batch-batch.result.0 in
    let k = kept_of keep old.failed old.total v c.if-self.false old.kept in
    let t = c.take_batch-batch.ensures in
    let commits = c.take_batch-batch.result.1 in
    let b = base_in first_of c.args.turn.now in
    let enough : old.turns - 1 + 1 ≤ old.turns = search rules in
    record {
      outside = t.seat.1;
      seated = log_seat_on old.turns (old.turns - 1) v w enough t.turn old.seated;
      told = total_now old.entries.items c.push.new.self.items (record { by = c.args.by; total = commits }) old.total c.push.ensures old.told
          (less_at keep then_keep brings old.total commits v w t.turn.base k t.batch (g.S.EpochServer.failed c.write.new.log) c.write.result b c.requires.seat.1);
      running = runs_at_ok keep then_keep brings old.total commits v w t.turn.base k t.batch (g.S.EpochServer.failed c.write.new.log) c.write.result c.in_default.field-0 c.in_default.is
          c.write.ensures.kept b c.requires.seat.1 ∙ sym c.if-self.false;
      kept = subst (λ f. IsKeptAt then_keep f commits w) (sym c.if-self.false) (kept_at_ok keep then_keep brings old.total commits v w t.turn.base k t.batch
          (g.S.EpochServer.failed c.write.new.log) c.write.result c.in_default.field-0 c.in_default.is c.write.ensures.kept);
    }
