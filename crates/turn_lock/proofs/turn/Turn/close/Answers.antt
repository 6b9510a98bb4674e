use Rattle.std.proofs.Common.{rules, ap, ◌∙◌, ◌++◌}
use Rattle.std.specs.Option.{option_to_list}
use Rattle.turn_lock.proofs.Closing.{begins, goes_on, finishes}
use Rattle.turn_lock.proofs.turn.Turn.close.Goals as goal

pub loop-other-init : goal.loop-other-init
loop-other-init g c = begins g.T.Member c.args.self _ c.args.seats.items c.pop.new.self.items c.unwrap-first.result
    (c.pop.ensures.items ∙ ap (λ o. c.pop.new.self.items ++ option_to_list o) c.unwrap-first.ensures) c.requires.seats c.requires.all

pub loop-other-preserved : goal.loop-other-preserved
loop-other-preserved g c = goes_on g.T.Member c.args.self _ c.args.seats.items c.loop-other.seats.items c.pop-in-loop-other.new.self.items c.loop-other.first c.in-Some.other c.join.new.seat
    (c.pop-in-loop-other.ensures.items ∙ ap (λ o. c.pop-in-loop-other.new.self.items ++ option_to_list o) c.in-Some.is) c.join.ensures.seat c.join.ensures.view c.loop-other.invariant

pub returns-clause-follows : goal.returns-clause-follows
returns-clause-follows g c = finishes g.T.Member c.args.self _ c.args.seats.items c.loop-other.seats.items c.loop-other.first c.end.result (search rules) c.end.ensures.ends c.loop-other.invariant
