use Rattle.std.specs.Prelude.{◌≡◌}
use Rattle.session_server.specs.Passes.{IsPassOf}
use Rattle.engine_trials.proofs.hall_trial.read_before.Given as goal

abbrev pub invariant-loop : goal.invariant-loop
invariant-loop g l = IsPassOf l.hall l.pass × (l.pass.session ≡ l.fn.pass.session)
