use Rattle.std.proofs.Common.{◌≡◌, ◌+◌, ◌-◌}
use Rattle.driver_laws.specs.Laws.{most_requests}
use Rattle.script_runner.specs.turns.Seats.{scripts_on}
use Rattle.script_runner.specs.turns.Rounds.{round_of}
use Rattle.script_runner.proofs.lemmas.turns.Underway.{IsLogged}
use Rattle.script_runner.proofs.turns.drive.turns.Given as goal

abbrev pub invariant-loop-ring : goal.invariant-loop-ring
invariant-loop-ring g l = record {
  store : l.engine.store ≡ l.fn.engine.store;
  names : l.engine.names ≡ l.fn.engine.names;
  logged : IsLogged l.fn.engine.store (scripts_on l.scripts) (g.G.Log.tells l.log l.fn.engine.names) l.engine.events (round_of l.ring) l.fn.steps l.steps;
}

abbrev pub decreases-loop-ring : goal.decreases-loop-ring
decreases-loop-ring g l = most_requests (scripts_on l.scripts) + l.fn.steps - l.steps
