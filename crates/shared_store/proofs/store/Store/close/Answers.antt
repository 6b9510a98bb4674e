use Rattle.std.proofs.Common.{rules, ◌≡◌, ◌<◌, ◌++◌, length, ap, subst, sym, ◌∙◌}
use Rattle.std.specs.Option.{option_to_list}
use Rattle.turn_lock.specs.Calls.{AreOwned}
use Rattle.turn_lock.specs.Counts.{HasAll}
use Rattle.turn_lock.specs.Seats.{view_of}
use Rattle.shared_store.specs.Ending.{IsKeptAfter}
use Rattle.shared_store.specs.Holding.{IsKept}
use Rattle.shared_store.specs.Hosting.{first_of}
use Rattle.shared_store.specs.Lives.{owner_of}
use Rattle.shared_store.specs.Sharing.{base_of}
use Rattle.shared_store.specs.Stages.{Stage}
use Rattle.shared_store.proofs.Gathering.{all_in, all_of, all_within, begins, first_ends, front_ghosts, front_seat, goes_on}
use Rattle.shared_store.proofs.Gathering.{kept_at_end, kept_to_end, log_ghosts, log_seat, next_of, owned_all, some_left}
use Rattle.shared_store.proofs.store.Store.close.Goals as goal

pub unwrap-requires : goal.unwrap-requires
unwrap-requires g c = let some_ : 0 < length c.args.sessions.items = some_left c.args.sessions.items c.requires.all in search rules

pub loop-session-init : goal.loop-session-init
loop-session-init g c =
    let whole = c.args.sessions.items in
    let front = c.pop.new.self.items in
    let p = c.unwrap.result in
    let e = c.pop.ensures.items ∙ ap (λ o. front ++ option_to_list o) c.unwrap.ensures in
    let s = c.into_seats-seat in (
      begins front_ghosts c.args.self.turn front_seat (λ p. p.knows.owner) (λ p. p.outside) whole front p s.result.0 e s.ensures.0 (λ k p l. (c.requires.sessions k p l).0) c.requires.all,
      begins log_ghosts c.args.self.log_turn log_seat (λ p. p.knows_log.owner) (λ p. p.log_outside) whole front p s.result.1 e s.ensures.1 (λ k p l. (c.requires.sessions k p l).2) c.requires.all,
    )

pub join-requires-clause-seats : goal.join-requires-clause-seats
join-requires-clause-seats g c =
    let inv = c.loop-session.invariant.0 in
    let front = c.pop-in-loop-session.new.self.items in
    let e = c.pop-in-loop-session.ensures.items ∙ ap (λ o. front ++ option_to_list o) c.in-Some.is in (
      inv.first_ready.0,
      ap (λ s. s.seat.table_id) c.into_seats-other.ensures.0 ∙ next_of front_ghosts c.args.self.turn front_seat (λ p. p.knows.owner) (λ p. p.outside) c.args.sessions.items
          c.loop-session.sessions.items front c.in-Some.session c.loop-session.seat e inv,
    )

pub join-requires-in-Some-clause-seats : goal.join-requires-in-Some-clause-seats
join-requires-in-Some-clause-seats g c =
    let inv = c.loop-session.invariant.1 in
    let front = c.pop-in-loop-session.new.self.items in
    let e = c.pop-in-loop-session.ensures.items ∙ ap (λ o. front ++ option_to_list o) c.in-Some.is in (
      inv.first_ready.0,
      ap (λ s. s.seat.table_id) c.into_seats-other.ensures.1 ∙ next_of log_ghosts c.args.self.log_turn log_seat (λ p. p.knows_log.owner) (λ p. p.log_outside) c.args.sessions.items
          c.loop-session.sessions.items front c.in-Some.session c.loop-session.log_seat e inv,
    )

pub loop-session-preserved : goal.loop-session-preserved
loop-session-preserved g c =
    let whole = c.args.sessions.items in
    let items = c.loop-session.sessions.items in
    let front = c.pop-in-loop-session.new.self.items in
    let e = c.pop-in-loop-session.ensures.items ∙ ap (λ o. front ++ option_to_list o) c.in-Some.is in
    let s = c.into_seats-other in (
      goes_on front_ghosts c.args.self.turn front_seat (λ p. p.knows.owner) (λ p. p.outside) whole items front c.in-Some.session c.loop-session.seat s.result.0 c.join.new.seat e s.ensures.0
          c.join.ensures.seat c.join.ensures.view c.loop-session.invariant.0,
      goes_on log_ghosts c.args.self.log_turn log_seat (λ p. p.knows_log.owner) (λ p. p.log_outside) whole items front c.in-Some.session c.loop-session.log_seat s.result.1 c.join-in-Some.new.seat e
          s.ensures.1 c.join-in-Some.ensures.seat c.join-in-Some.ensures.view c.loop-session.invariant.1,
    )

pub end-requires-clause-all : goal.end-requires-clause-all
end-requires-clause-all g c =
    let given = c.into_parts-log.result.1 in
    let none : length c.loop-session.sessions.items ≡ 0 = search rules in
    subst (λ n. HasAll n (view_of c.join-2.new.seat).owners) (sym c.args.self.sized.0)
    (all_of c.loop-session.seat given c.join-2.new.seat c.join-2.ensures.view (ap (λ s. (view_of s).owners) c.into_parts-log.ensures.1 ∙ c.end-keeper.result.seated.owner)
    (all_in front_ghosts c.args.self.turn front_seat (λ p. p.knows.owner) (λ p. p.outside) c.args.sessions.items c.loop-session.sessions.items c.loop-session.seat none c.loop-session.invariant.0))

pub finish-requires : goal.finish-requires
finish-requires g c =
    let keeper = c.end-keeper.result in
    let given = c.into_parts-log.result.1 in
    let x = c.end.result in
    let keeps : ∥ IsKept (g.S.EpochServer.keeps keeper.log) (first_of x) keeper.failed keeper.total x.entries.items ∥₁ =
    kept_at_end c.loop-session.seat given c.join-2.new.seat c.join-2.ensures.view x c.end.ensures.ends (g.S.EpochServer.keeps keeper.log) keeper.failed keeper.total (view_of keeper.seat)
    (ap view_of c.into_parts-log.ensures.1) keeper.seated.owner keeper.kept in
    record {
      kept = subst (λ l. ∥ IsKept (g.S.EpochServer.keeps l) (first_of x) (g.S.EpochServer.failed l) keeper.total x.entries.items ∥₁) (sym c.into_parts-log.ensures.0)
          (subst (λ f. ∥ IsKept (g.S.EpochServer.keeps keeper.log) (first_of x) f keeper.total x.entries.items ∥₁) (sym keeper.running) keeps);
    }

pub returns-clause-owners : goal.returns-clause-owners
returns-clause-owners g c = owned_all c.end.result.entries.items c.finish.result.life.items c.finish.ensures.more
    (subst (λ n. AreOwned owner_of n c.end.result.entries.items) c.args.self.sized.0 c.end.ensures.owned)

pub returns-clause-sessions : goal.returns-clause-sessions
returns-clause-sessions g c =
    let none : length c.loop-session.sessions.items ≡ 0 = search rules in
    let x = c.end.result in
    all_within c.args.self.turn c.args.sessions.items c.loop-session.sessions.items c.loop-session.seat x c.finish.result.life.items none
    (first_ends c.loop-session.seat c.into_parts-log.result.1 c.join-2.new.seat c.join-2.ensures.view x c.end.ensures.ends) c.finish.ensures.more c.loop-session.invariant.0

pub returns-clause-kept : goal.returns-clause-kept
returns-clause-kept g c =
    let none : length c.loop-session.sessions.items ≡ 0 = search rules in
    let keeper = c.end-keeper.result in
    let life = c.finish.result.life.items in
    let keep = g.S.EpochServer.keeps c.finish.result.log in
    let failed = g.S.EpochServer.failed c.finish.result.log in
    kept_to_end c.args.self.log_turn c.args.sessions.items c.loop-session.sessions.items c.loop-session.log_seat keeper keep (base_of c.args.self) failed life none c.end-keeper.ensures.ends
    (subst (λ (b : Stage). IsKeptAfter keep b failed keeper.total life) c.end.ensures.base c.finish.ensures.kept) c.loop-session.invariant.1
