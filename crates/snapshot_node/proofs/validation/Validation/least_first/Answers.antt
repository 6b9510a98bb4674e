use Rattle.std.proofs.Common.{sym, subst}
use Rattle.teb_rules.proofs.lemmas.laws.Sound.{tree_facts}
use Rattle.phase_api.specs.FactsView.{setup_of, events_of}
use Rattle.snapshot_node.specs.Pivots.{IsLeast, IsFirst}
use Rattle.snapshot_node.proofs.Comers.{least_comer}
use Rattle.snapshot_node.proofs.validation.Validation.least_first.Goals as goal

pub returns : goal.returns
returns c =
    let v = c.args.self.now in
    let S = setup_of v.asked.facts.now in
    let H = events_of v.asked.facts.now in
    let n = v.asked.register.now.node.0 in
    let t = v.t.0 in
    subst (IsLeast (IsFirst S H n t)) (sym c.lesser.ensures)
    (least_comer S H n t v.lawful (tree_facts S v.tree) v.asked.stands.kind c.first_before.result c.first_after.result c.first_before.ensures c.first_after.ensures)
