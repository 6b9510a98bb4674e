use Rattle.std.proofs.Common.{◌≡◌, List, ◌++◌, drop}
use Rattle.script_text.specs.declared.Answered.{Answered}
use Rattle.script_runner.specs.replay.Logs.{log_of, requests_of}
use Rattle.script_runner.proofs.lemmas.replay.Logged.{after, HasFront}
use Rattle.script_runner.proofs.replay.lines.ask_each.Given as goal

abbrev pub invariant-loop-line : goal.invariant-loop-line
invariant-loop-line g l = let rest = requests_of (drop l.line-index l.lines) in record {
  store : l.engine.store ≡ l.fn.engine.store;
  names : l.engine.names ≡ l.fn.engine.names;
  log : (told : List Answered) → g.L.Log.tells l.fn.log l.fn.engine.names told
      → HasFront (g.L.Log.tells l.log l.fn.engine.names) (log_of l.engine.store l.engine.events rest) (told ++ log_of l.fn.engine.store l.fn.engine.events (requests_of l.lines));
  events : after l.engine.store l.engine.events rest ≡ after l.fn.engine.store l.fn.engine.events (requests_of l.lines);
}
