use Rattle.std.proofs.Common.{◌∙◌, ◌||◌, ℕ, Bool, sym, ap, inl, inr}
use Rattle.std.proofs.lemmas.Bool.{both_ways, or_left, or_right}
use Rattle.teb_rules.specs.Versions.{precedes}
use Rattle.teb_rules.proofs.lemmas.laws.VersionOrder.{precedes_row}
use Rattle.version_chain.specs.Lists.{writers_of}
use Rattle.timestamp_node.proofs.Said.{found_place, not_found, place_tells}
use Rattle.timestamp_node.proofs.stamps.is_at_most.Goals as goal

pub returns-then-eq : goal.returns-then-eq
returns-then-eq g c S H k p h =
    elim c.then-eq.either [
      | inl e ↦ sym (or_left _ _ (sym c.eq.ensures ∙ e))
      | inr z ↦ sym (or_right _ _ (ap (λ (w : ℕ). precedes S H c.args.cell w c.args.t.0) z.1 ∙ precedes_row S H c.args.cell c.args.t.0 c.requires))
    ]

pub returns-in-Some : goal.returns-in-Some
returns-in-Some g c S H k p h =
    let w = c.args.writer.0 in
    let ws = writers_of (g.C.Chains.lists c.args.chains.now c.args.cell) in
    let at = found_place ws w c.in-Some.place (sym c.find.ensures ∙ c.in-Some.is) in
    place_tells S H c.args.cell c.args.t.0 c.args.at ws w c.in-Some.place p at.1
    ∙ ap (λ (b : Bool). b || precedes S H c.args.cell w c.args.t.0) c.if-eq.ensures

pub returns-in-None : goal.returns-in-None
returns-in-None g c S H k p h =
    let w = c.args.writer.0 in
    let ws = writers_of (g.C.Chains.lists c.args.chains.now c.args.cell) in
    absurd (elim h [
      | inl z ↦ c.if-writer-eq0.false z
      | inr v ↦ both_ways _ (not_found ws w (sym c.find.ensures ∙ c.in-None.is)) (k.writers c.args.cell w ∙ v)
    ])
