use Rattle.std.proofs.Common.{ap, ap₂, not, sym, ◌∙◌}
use Rattle.std.proofs.lemmas.Bool.{both_ways, false_from_ne_true}
use Rattle.teb_rules.proofs.lemmas.laws.Sound.{tree_facts}
use Rattle.phase_api.specs.FactsView.{setup_of, events_of}
use Rattle.snapshot_node.specs.declared.marks.Mark.{Mark}
use Rattle.snapshot_node.specs.Marks.{is_ahead}
use Rattle.snapshot_node.proofs.LeadsOut.{unmarked}
use Rattle.snapshot_node.proofs.snapshot.Snapshot.has_edge.Goals as goal

pub returns-then-not-mark_at : goal.returns-then-not-mark_at
returns-then-not-mark_at c =
    let S = setup_of c.args.facts.now in
    let stands = c.requires.stands in
    unmarked S (tree_facts S c.requires.sound) (events_of c.args.facts.now) c.args.self.now.register.node.0 c.args.a.0 c.args.self.now.marks.items c.requires.lawful stands.register.orderly
    stands.register.kind stands.marked c.requires.committed
    (sym (ap₂ is_ahead c.deref.ensures.value c.place_of.ensures) ∙ sym (ap (λ (m : Mark). m.ahead) c.mark_at.ensures) ∙ false_from_ne_true _ (λ e. both_ways _ (ap not e) c.if-not-mark_at.true))
