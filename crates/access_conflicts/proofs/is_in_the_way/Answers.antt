use Rattle.std.proofs.Common.{◌≡◌, ℕ, ◌&&◌, ◌||◌, Bool, true, false, eqb, List, inl, inr, sym, ◌∙◌, ap}
use Rattle.std.proofs.lemmas.Bool.{cases_Bool, eqb-true}
use Rattle.teb_rules.proofs.lemmas.names.Bools.{and_false}
use Rattle.teb_rules.specs.declared.history.Event.{Event}
use Rattle.teb_rules.specs.Setup.{Setup}
use Rattle.teb_rules.specs.Tree.{meets, side}
use Rattle.teb_rules.proofs.lemmas.laws.Nodes.{meets_parts}
use Rattle.phase_api.specs.FactsView.{setup_of, events_of}
use Rattle.access_conflicts.proofs.is_in_the_way.Goals as goal

-- a transaction does not meet itself
apart : (S : Setup) (H : List Event) (n t u : ℕ) → eqb u t ≡ true → meets S H n t u ≡ false
apart S H n t u e = elim (cases_Bool (meets S H n t u)) [
  | inl m ↦ absurd ((meets_parts S H n t u m).2 (ap (λ (k : ℕ). side S H n k) (sym (eqb-true u t e))))
  | inr m ↦ m
]

pub returns-then-eq : goal.returns-then-eq
returns-then-eq c =
    let S = setup_of c.args.facts.now in
    let H = events_of c.args.facts.now in
    let way = c.args.write || c.args.hold.now.wrote in
    sym (ap (λ (b : Bool). way && b) (apart S H c.args.node.0 c.args.t.0 c.args.hold.now.txn.0 (sym c.eq.ensures ∙ c.if-eq.true)) ∙ and_false way)
