use Rattle.std.proofs.Common.{◌∙◌, sym, rules, arith}
use Rattle.teb_rules.proofs.lemmas.history.Chains.{own_before-none, own_before-step, linked_before, links_within}
use Rattle.teb_rules.proofs.history.own_events.OwnEventsIterator.next.Goals as goal

pub returns-then-self-eq0-clause-steps : goal.returns-then-self-eq0-clause-steps
returns-then-self-eq0-clause-steps c =
    let none = sym c.self.view_is ∙ own_before-none c.self.inside.events.now c.self.inside.end c.if-self-eq0.true in
    (none, none)

pub bounds-self-inside-newest : goal.bounds-self-inside-newest
bounds-self-inside-newest c = omega (arith, c.self.invariant.within, links_within _ _ _ c.self.invariant)

pub invariant_of-self : goal.invariant_of-self
invariant_of-self c = linked_before _ _ _ c.self.invariant (omega arith)

pub returns-clause-steps : goal.returns-clause-steps
returns-clause-steps c = sym c.self.view_is ∙ own_before-step _ _ _ c.self.invariant (omega arith) _

pub returns-clause-goes : goal.returns-clause-goes
returns-clause-goes c =
    let steps = returns-clause-steps c in
    search rules
