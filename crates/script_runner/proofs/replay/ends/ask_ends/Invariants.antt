use Rattle.std.proofs.Common.{◌≡◌, List, ◌++◌, drop, map}
use Rattle.script_text.specs.declared.Answered.{Answered}
use Rattle.script_runner.specs.replay.Logs.{log_of}
use Rattle.script_runner.specs.replay.Holders.{end_of}
use Rattle.script_runner.proofs.lemmas.replay.Logged.{after, HasFront}
use Rattle.script_runner.proofs.replay.ends.ask_ends.Given as goal

abbrev pub invariant-loop-session : goal.invariant-loop-session
invariant-loop-session g l = let rest = map end_of (drop l.session-index l.holders) in record {
  store : l.engine.store ≡ l.fn.engine.store;
  names : l.engine.names ≡ l.fn.engine.names;
  log : (told : List Answered) → g.L.Log.tells l.fn.log l.fn.engine.names told
      → HasFront (g.L.Log.tells l.log l.fn.engine.names) (log_of l.engine.store l.engine.events rest) (told ++ log_of l.fn.engine.store l.fn.engine.events (map end_of l.holders));
  events : after l.engine.store l.engine.events rest ≡ after l.fn.engine.store l.fn.engine.events (map end_of l.holders);
}
