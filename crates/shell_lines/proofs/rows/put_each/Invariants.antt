use Rattle.std.proofs.Common.{◌≡◌, ◌++◌, drop}
use Rattle.script_text.specs.Texts.{rows_text}
use Rattle.shell_lines.specs.Answers.{row_word}
use Rattle.shell_lines.proofs.rows.put_each.Given as goal

abbrev pub invariant-loop-row : goal.invariant-loop-row
invariant-loop-row l = l.out.items ++ rows_text l.names row_word (drop l.row-index l.rows) ≡ l.initial.out.items ++ rows_text l.names row_word l.rows
