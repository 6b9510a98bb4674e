use Rattle.std.proofs.Common.{◌≡◌, ◌∙◌, ◌&&◌, not, ltb, get_or, sym, ap, true}
use Rattle.std.proofs.lemmas.Bool.{and_from, not_from_false}
use Rattle.teb_rules.specs.declared.names.Txn.{Txn}
use Rattle.teb_rules.specs.history.Phases.{committed}
use Rattle.teb_rules.specs.Tree.{meets}
use Rattle.teb_rules.specs.Batches.{start, close}
use Rattle.phase_api.specs.FactsView.{setup_of, events_of}
use Rattle.access_conflicts.proofs.Blockers.{find_here, find_end}
use Rattle.snapshot_node.specs.Asking.{comes_first}
use Rattle.snapshot_node.proofs.Listed.{at_among}
use Rattle.snapshot_node.proofs.asked.Asked.first_writer.Goals as goal

pub is_closed_before-requires-clause-left : goal.is_closed_before-requires-clause-left
is_closed_before-requires-clause-left c = c.requires.among_here _ (at_among c.args.among.now c.loop-u.u-index _ c.loop-u-test.true)

pub meet_at-requires-clause-right : goal.meet_at-requires-clause-right
meet_at-requires-clause-right c = (c.requires.among_here _ (at_among c.args.among.now c.loop-u.u-index _ c.loop-u-test.true)).typed

pub returns-then-meet_at : goal.returns-then-meet_at
returns-then-meet_at c =
    let f = c.args.self.now.facts.now in
    let S = setup_of f in
    let H = events_of f in
    let n = c.args.self.now.register.now.node.0 in
    let t = c.args.t.0 in
    let us = c.args.among.now in
    let i = c.loop-u.u-index in
    let d : Txn = record { 0 = 0 } in
    let late = and_from (committed H (get_or us i d).0) (not (ltb (close S H n (get_or us i d).0) (start S H n t))) (sym c.is_committed.ensures ∙ c.if-is_committed.true)
    (ap not (sym c.is_closed_before.ensures) ∙ not_from_false _ c.if-not-is_closed_before.true) in
    let first : comes_first S H n t (get_or us i d) ≡ true = and_from (committed H (get_or us i d).0 && not (ltb (close S H n (get_or us i d).0) (start S H n t))) (meets S H n t (get_or us i d).0)
    late (sym c.meet_at.ensures ∙ c.if-meet_at.true) in
    find_here (comes_first S H n t) us i d c.loop-u-test.true first c.loop-u.invariant

pub returns : goal.returns
returns c =
    let f = c.args.self.now.facts.now in
    let S = setup_of f in
    let H = events_of f in
    let n = c.args.self.now.register.now.node.0 in
    let t = c.args.t.0 in
    let us = c.args.among.now in
    find_end (comes_first S H n t) us c.loop-u.u-index c.loop-u-test.false c.loop-u.invariant
