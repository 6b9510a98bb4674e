use Rattle.std.proofs.Common.{rules, ◌+◌, ◌*◌, ◌≤◌, refl, arith}
use Rattle.turn_lock.specs.Seats.{view_of}
use Rattle.shared_store.specs.declared.session.TheConstants.{MOST_ASKS, MOST_TURNS}
use Rattle.shared_store.specs.Sharing.{base_of}
use Rattle.shared_store.specs.Stages.{first_stage}
use Rattle.shared_store.specs.Turning.{AddsEnd}
use Rattle.shared_store.proofs.Adding.{for_others_grow}
use Rattle.shared_store.proofs.Answered.{has_ended, knows_on, unasked}
use Rattle.shared_store.proofs.Results.{on_ok}
use Rattle.shared_store.proofs.Turning.{Took, adds, sees_end, sees_none, takes}
use Rattle.shared_store.proofs.session.StoreSession.expel.Goals as goal

pub leave-requires-clause-adds : goal.leave-requires-clause-adds
leave-requires-clause-adds g c =
    let x = c.enter-hosted.result in
    let y = c.end_for-ended.new.self in
    adds c.args.self.now.session.0 c.args.self.now.seat.seat.me.0 c.enter-hosted.new.seat.seat.me.0 x y record {
      owner = c.args.self.now.knows.owner;
      follows = c.enter-hosted.ensures.follows;
      enters = c.enter-hosted.ensures.enters;
      grows = for_others_grow c.args.self.now.session.0 x.entries.items y.entries.items c.end_for-ended.ensures.others;
      first = c.end_for-ended.ensures.first;
    }

pub returns-in-Ok-clause-ended : goal.returns-in-Ok-clause-ended
returns-in-Ok-clause-ended g c =
    let x = c.enter-hosted.result in
    let y = c.end_for-ended.new.self in
    let old = c.args.self.now in
    let v = c.enter-hosted.new.seat.seat.me.0 in
    let w = c.leave.new.seat.seat.me.0 in
    let t : Took old.session.0 old.seat.seat.me.0 v x y = record {
      owner = old.knows.owner;
      follows = c.enter-hosted.ensures.follows;
      enters = c.enter-hosted.ensures.enters;
      grows = for_others_grow old.session.0 x.entries.items y.entries.items c.end_for-ended.ensures.others;
      first = c.end_for-ended.ensures.first;
    } in
    unasked (base_of c.args.store.now) old _ refl refl c.requires.session.1 1 (takes old.session.0 old.seat.seat.me.0 v x y w t c.leave.ensures.view)
    (sees_none old.session old.seat.seat.me.0 v x y w t c.leave.ensures.view c.end_for-ended.ensures.others)

pub returns-in-Ok-clause-other_ended : goal.returns-in-Ok-clause-other_ended
returns-in-Ok-clause-other_ended g c =
    let x = c.enter-hosted.result in
    let y = c.end_for-ended.new.self in
    let old = c.args.self.now in
    let b = base_of c.args.store.now in
    let v = c.enter-hosted.new.seat.seat.me.0 in
    let w = c.leave.new.seat.seat.me.0 in
    let t : Took old.session.0 old.seat.seat.me.0 v x y = record {
      owner = old.knows.owner;
      follows = c.enter-hosted.ensures.follows;
      enters = c.enter-hosted.ensures.enters;
      grows = for_others_grow old.session.0 x.entries.items y.entries.items c.end_for-ended.ensures.others;
      first = c.end_for-ended.ensures.first;
    } in
    has_ended b old _ c.args.other (sees_end old.session old.seat.seat.me.0 v x y w t c.leave.ensures.view b c.args.other c.requires.session.1
    (on_ok (AddsEnd (first_stage (g.S.EpochServer.standing x.first.value)) old.session c.args.other x.entries.items y.entries.items) c.end_for-ended.result _ c.in-Ok.is
    c.end_for-ended.ensures.ended))

pub returns-in-Err-clause-unasked : goal.returns-in-Err-clause-unasked
returns-in-Err-clause-unasked g c =
    let x = c.enter-hosted.result in
    let y = c.end_for-ended.new.self in
    let old = c.args.self.now in
    let v = c.enter-hosted.new.seat.seat.me.0 in
    let w = c.leave.new.seat.seat.me.0 in
    let t : Took old.session.0 old.seat.seat.me.0 v x y = record {
      owner = old.knows.owner;
      follows = c.enter-hosted.ensures.follows;
      enters = c.enter-hosted.ensures.enters;
      grows = for_others_grow old.session.0 x.entries.items y.entries.items c.end_for-ended.ensures.others;
      first = c.end_for-ended.ensures.first;
    } in
    λ f _. unasked (base_of c.args.store.now) old _ refl refl c.requires.session.1 1 (takes old.session.0 old.seat.seat.me.0 v x y w t c.leave.ensures.view)
    (sees_none old.session old.seat.seat.me.0 v x y w t c.leave.ensures.view c.end_for-ended.ensures.others)

pub invariant_of-self : goal.invariant_of-self
invariant_of-self g c =
    let x = c.enter-hosted.result in
    let y = c.end_for-ended.new.self in
    let old = c.args.self.now in
    let s = old.session in
    let v = old.seat.seat.me.0 in
    let w = c.leave.new.seat.seat.me.0 in
    let t : Took s.0 v c.enter-hosted.new.seat.seat.me.0 x y = record {
      owner = old.knows.owner;
      follows = c.enter-hosted.ensures.follows;
      enters = c.enter-hosted.ensures.enters;
      grows = for_others_grow s.0 x.entries.items y.entries.items c.end_for-ended.ensures.others;
      first = c.end_for-ended.ensures.first;
    } in
    let took = takes s.0 v c.enter-hosted.new.seat.seat.me.0 x y w t c.leave.ensures.view in
    let turns : MOST_TURNS ≤ w.turns + 2 * (old.asks + 1) = let a = old.knows.turns in let b = took.turns in omega arith in
    let log_turns : MOST_TURNS ≤ (view_of old.log_seat).turns + 2 * (old.asks + 1) = let a = old.knows_log.turns in omega arith in
    let few : old.asks + 1 ≤ MOST_ASKS = search rules in
    record {
      outside = c.leave.ensures.seat.1;
      log_outside = old.log_outside;
      knows = knows_on s.0 old.asks (old.asks + 1) 1 v w old.knows took turns few;
      knows_log = record { owner = old.knows_log.owner; turns = log_turns };
    }
