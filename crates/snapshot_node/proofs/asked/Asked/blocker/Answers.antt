use Rattle.std.proofs.Common.{◌≡◌, ◌∙◌, get_or, sym, true}
use Rattle.std.proofs.lemmas.Bool.{and_from}
use Rattle.teb_rules.specs.declared.names.Txn.{Txn}
use Rattle.teb_rules.specs.history.Phases.{unfinished}
use Rattle.teb_rules.specs.Tree.{meets}
use Rattle.phase_api.specs.FactsView.{setup_of, events_of}
use Rattle.access_conflicts.proofs.Blockers.{find_here, find_end}
use Rattle.snapshot_node.specs.Asking.{is_met}
use Rattle.snapshot_node.proofs.Listed.{at_among}
use Rattle.snapshot_node.proofs.asked.Asked.blocker.Goals as goal

pub meet_at-requires-clause-right : goal.meet_at-requires-clause-right
meet_at-requires-clause-right c = (c.requires.among_here _ (at_among c.args.among.now c.loop-u.u-index _ c.loop-u-test.true)).typed

pub returns-then-meet_at : goal.returns-then-meet_at
returns-then-meet_at c =
    let f = c.args.self.now.facts.now in
    let S = setup_of f in
    let H = events_of f in
    let n = c.args.self.now.register.now.node.0 in
    let t = c.args.t.0 in
    let us = c.args.among.now in
    let i = c.loop-u.u-index in
    let d : Txn = record { 0 = 0 } in
    let met : is_met S H n t (get_or us i d) ≡ true = and_from (unfinished H (get_or us i d).0) (meets S H n t (get_or us i d).0) (sym c.is_unfinished.ensures ∙ c.if-is_unfinished.true)
    (sym c.meet_at.ensures ∙ c.if-meet_at.true) in
    find_here (is_met S H n t) us i d c.loop-u-test.true met c.loop-u.invariant

pub returns : goal.returns
returns c =
    let f = c.args.self.now.facts.now in
    let S = setup_of f in
    let H = events_of f in
    let n = c.args.self.now.register.now.node.0 in
    let t = c.args.t.0 in
    let us = c.args.among.now in
    find_end (is_met S H n t) us c.loop-u.u-index c.loop-u-test.false c.loop-u.invariant
