use Rattle.std.specs.Prelude.{◌≡◌}
use Rattle.session_server.specs.Passes.{IsPassOf}
use Rattle.embedded_hall.proofs.client.run_client.Given as goal

abbrev pub invariant-loop-i : goal.invariant-loop-i
invariant-loop-i g l = IsPassOf l.hall l.pass × (l.pass.session ≡ l.fn.pass.session)
