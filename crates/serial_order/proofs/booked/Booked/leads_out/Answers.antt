use Rattle.std.proofs.Common.{ℕ, sym, subst, ◌∙◌}
use Rattle.std.proofs.lemmas.Bool.{both_ways}
use Rattle.phase_api.specs.Calls.{IsHere}
use Rattle.serial_order.proofs.Typed.{committed_typed}
use Rattle.serial_order.proofs.booked.Booked.leads_out.Goals as goal
use Rattle.serial_order.proofs.booked.Booked.leads_out.Goals.{then-is_committed, else-is_committed}

pub is_on-requires : goal.is_on-requires
is_on-requires c = committed_typed c.args.self.now.facts.now c.args.a.0 c.args.self.now.lawful (sym c.is_committed.ensures ∙ c.if-is_committed.true)

pub has_edge-requires-clause-here : goal.has_edge-requires-clause-here
has_edge-requires-clause-here c = elim c.if-is_committed.branch [
  | then-is_committed w ↦ subst (λ (n : ℕ). IsHere c.args.self.now.facts.now n c.args.a.0) (sym c.requires.root) (record {
    typed = committed_typed c.args.self.now.facts.now c.args.a.0 c.args.self.now.lawful (sym c.is_committed.ensures ∙ w.if-is_committed.true);
    on = sym w.is_on.ensures ∙ sym w.value-is ∙ c.if-is_on.true;
  })
  | else-is_committed w ↦ absurd (both_ways _ (w.value-is ∙ w.if-is_committed.false) c.if-is_on.true)
]
