use Rattle.std.specs.Prelude.{◌≡◌}
use Rattle.session_server.specs.Passes.{IsPassOf}
use Rattle.embedded_hall.proofs.client.move_money.Given as goal

abbrev pub invariant-loop : goal.invariant-loop
invariant-loop g l = IsPassOf l.hall l.pass × (l.pass.session ≡ l.fn.pass.session)
