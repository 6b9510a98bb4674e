use Rattle.std.proofs.Common.{◌≡◌, List, ◌++◌}
use Rattle.std.specs.Slice.Iter.{chunks_rest, chunks_size}
use Rattle.script_text.specs.declared.Answered.{Answered}
use Rattle.script_runner.specs.replay.Logs.{log_of, requests_of}
use Rattle.script_runner.proofs.lemmas.replay.Logged.{after, HasFront}
use Rattle.script_runner.proofs.replay.lines.ask_lines.Given as goal

abbrev pub invariant-loop-piece : goal.invariant-loop-piece
invariant-loop-piece g l = let rest = requests_of (chunks_rest l.piece-iterator) in record {
  size : chunks_size l.piece-iterator ≡ 64;
  store : l.engine.store ≡ l.fn.engine.store;
  names : l.engine.names ≡ l.fn.engine.names;
  log : (told : List Answered) → g.L.Log.tells l.fn.log l.fn.engine.names told
      → HasFront (g.L.Log.tells l.log l.fn.engine.names) (log_of l.engine.store l.engine.events rest) (told ++ log_of l.fn.engine.store l.fn.engine.events (requests_of l.lines));
  events : after l.engine.store l.engine.events rest ≡ after l.fn.engine.store l.fn.engine.events (requests_of l.lines);
}
