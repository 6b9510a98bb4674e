use Rattle.std.proofs.Common.{◌+◌, ◌*◌, ◌≤◌, arith}
use Rattle.turn_lock.specs.Seats.{base_in}
use Rattle.shared_store.specs.declared.session.TheConstants.{MOST_TURNS}
use Rattle.shared_store.specs.Hosting.{first_of}
use Rattle.shared_store.specs.Stages.{first_stage}
use Rattle.shared_store.proofs.Adding.{adds_grow}
use Rattle.shared_store.proofs.Answered.{knows_on}
use Rattle.shared_store.proofs.Turning.{Took, adds, counts, sees_answer, sees_free, takes}
use Rattle.shared_store.proofs.session.StoreSession.ask_once.Goals as goal

pub leave-requires-clause-adds : goal.leave-requires-clause-adds
leave-requires-clause-adds g c =
    let x = c.enter-hosted.result in
    let y = c.ask-answer.new.self in
    adds c.args.self.now.session.0 c.args.self.now.seat.seat.me.0 c.enter-hosted.new.seat.seat.me.0 x y record {
      owner = c.args.self.now.knows.owner;
      follows = c.enter-hosted.ensures.follows;
      enters = c.enter-hosted.ensures.enters;
      grows = adds_grow (first_stage (g.S.EpochServer.standing x.first.value)) c.args.self.now.session c.args.request c.ask-answer.result x.entries.items y.entries.items c.ask-answer.ensures.adds;
      first = c.ask-answer.ensures.first;
    }

pub returns-clause-turn : goal.returns-clause-turn
returns-clause-turn g c =
    let x = c.enter-hosted.result in
    let y = c.ask-answer.new.self in
    takes c.args.self.now.session.0 c.args.self.now.seat.seat.me.0 c.enter-hosted.new.seat.seat.me.0 x y c.leave.new.seat.seat.me.0 record {
      owner = c.args.self.now.knows.owner;
      follows = c.enter-hosted.ensures.follows;
      enters = c.enter-hosted.ensures.enters;
      grows = adds_grow (first_stage (g.S.EpochServer.standing x.first.value)) c.args.self.now.session c.args.request c.ask-answer.result x.entries.items y.entries.items c.ask-answer.ensures.adds;
      first = c.ask-answer.ensures.first;
    } c.leave.ensures.view

pub returns-clause-sees : goal.returns-clause-sees
returns-clause-sees g c =
    let x = c.enter-hosted.result in
    let y = c.ask-answer.new.self in
    sees_answer c.args.self.now.session c.args.self.now.seat.seat.me.0 c.enter-hosted.new.seat.seat.me.0 x y c.leave.new.seat.seat.me.0 record {
      owner = c.args.self.now.knows.owner;
      follows = c.enter-hosted.ensures.follows;
      enters = c.enter-hosted.ensures.enters;
      grows = adds_grow (first_stage (g.S.EpochServer.standing x.first.value)) c.args.self.now.session c.args.request c.ask-answer.result x.entries.items y.entries.items c.ask-answer.ensures.adds;
      first = c.ask-answer.ensures.first;
    } c.leave.ensures.view (base_in first_of c.args.store.now.turn) c.args.request c.ask-answer.result c.requires.session.1 c.ask-answer.ensures.adds

pub returns-clause-counted : goal.returns-clause-counted
returns-clause-counted g c =
    let x = c.enter-hosted.result in
    let y = c.ask-answer.new.self in
    counts c.args.self.now.session.0 c.args.self.now.seat.seat.me.0 c.enter-hosted.new.seat.seat.me.0 x y c.leave.new.seat.seat.me.0 record {
      owner = c.args.self.now.knows.owner;
      follows = c.enter-hosted.ensures.follows;
      enters = c.enter-hosted.ensures.enters;
      grows = adds_grow (first_stage (g.S.EpochServer.standing x.first.value)) c.args.self.now.session c.args.request c.ask-answer.result x.entries.items y.entries.items c.ask-answer.ensures.adds;
      first = c.ask-answer.ensures.first;
    } c.leave.ensures.view (base_in first_of c.args.store.now.turn) c.ask-answer.result c.requires.session.1 c.ask-answer.ensures.number

pub returns-clause-put_off : goal.returns-clause-put_off
returns-clause-put_off g c late =
    let x = c.enter-hosted.result in
    let y = c.ask-answer.new.self in
    let put_off = c.ask-answer.ensures.put_off late in (
      put_off.0,
      sees_free c.args.self.now.session c.args.self.now.seat.seat.me.0 c.enter-hosted.new.seat.seat.me.0 x y c.leave.new.seat.seat.me.0 record {
        owner = c.args.self.now.knows.owner;
        follows = c.enter-hosted.ensures.follows;
        enters = c.enter-hosted.ensures.enters;
        grows = adds_grow (first_stage (g.S.EpochServer.standing x.first.value)) c.args.self.now.session c.args.request c.ask-answer.result x.entries.items y.entries.items c.ask-answer.ensures.adds;
        first = c.ask-answer.ensures.first;
      } c.leave.ensures.view (base_in first_of c.args.store.now.turn) c.requires.session.1 put_off.2,
    )

pub invariant_of-self : goal.invariant_of-self
invariant_of-self g c =
    let x = c.enter-hosted.result in
    let y = c.ask-answer.new.self in
    let old = c.args.self.now in
    let s = old.session in
    let v = old.seat.seat.me.0 in
    let w = c.leave.new.seat.seat.me.0 in
    let t : Took s.0 v c.enter-hosted.new.seat.seat.me.0 x y = record {
      owner = old.knows.owner;
      follows = c.enter-hosted.ensures.follows;
      enters = c.enter-hosted.ensures.enters;
      grows = adds_grow (first_stage (g.S.EpochServer.standing x.first.value)) s c.args.request c.ask-answer.result x.entries.items y.entries.items c.ask-answer.ensures.adds;
      first = c.ask-answer.ensures.first;
    } in
    let took = takes s.0 v c.enter-hosted.new.seat.seat.me.0 x y w t c.leave.ensures.view in
    let turns : MOST_TURNS ≤ w.turns + 2 * old.asks = let a = c.requires.turns.at_front in let b = took.turns in omega arith in
    record {
      outside = c.leave.ensures.seat.1;
      log_outside = old.log_outside;
      knows = knows_on s.0 old.asks old.asks 1 v w old.knows took turns old.knows.few;
      knows_log = old.knows_log;
    }
