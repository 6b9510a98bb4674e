use Rattle.std.proofs.Common.{◌≡◌, ◌+◌, map, length}
use Rattle.script_text.specs.Lines.{lines_of}
use Rattle.script_text.specs.Words.{words_of}
use Rattle.script_text.proofs.ScriptSteps.{behind, script_by}
use Rattle.script_text.proofs.script.parse_script.Given as goal

abbrev pub invariant-loop-front : goal.invariant-loop-front
invariant-loop-front l = record {
  count : l.number + length (lines_of l.front-iterator.0.now) ≡ length (lines_of l.script);
  rest : behind l.lines.items (script_by l.book l.format (l.number + 1) (map words_of (lines_of l.front-iterator.0.now))) ≡ script_by l.book l.format 1 (map words_of (lines_of l.script));
}
