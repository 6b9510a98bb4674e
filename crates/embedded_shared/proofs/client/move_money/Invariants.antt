use Rattle.std.specs.Prelude.{◌≡◌}
use Rattle.shared_store.specs.Sharing.{IsSessionOf}
use Rattle.embedded_shared.proofs.client.move_money.Given as goal

abbrev pub invariant-loop : goal.invariant-loop
invariant-loop g l = IsSessionOf l.store l.session × (l.session.session ≡ l.fn.session.session)
