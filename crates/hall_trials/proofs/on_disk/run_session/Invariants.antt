use Rattle.std.specs.Prelude.{◌≡◌}
use Rattle.session_server.specs.Passes.{IsPassOf}
use Rattle.hall_trials.proofs.on_disk.run_session.Given as goal

abbrev pub invariant-loop-number : goal.invariant-loop-number
invariant-loop-number g l = IsPassOf l.hall l.pass × (l.pass.session ≡ l.fn.pass.session)
