use Rattle.std.proofs.Common.{◌≡◌, ◌++◌, ◌<◌, ℕ, ℤ, drop, get_or}
use Rattle.teb_rules.specs.declared.names.Cell.{Cell}
use Rattle.script_text.specs.Texts.{rows_text}
use Rattle.script_text.specs.Puts.{IsFront}
use Rattle.script_text.specs.Ranges.{RowInRange}
use Rattle.script_text.proofs.text.report.put_rows.Given as goal

abbrev pub invariant-loop-row : goal.invariant-loop-row
invariant-loop-row l = record {
  front : IsFront l.initial.out.items l.out.items;
  rest : l.out.items ++ rows_text l.names l.word (drop l.row-index l.rows) ≡ l.initial.out.items ++ rows_text l.names l.word l.rows;
  in_range : (k : ℕ) (d : Cell × ℤ) → k < l.row-index → RowInRange (get_or l.rows k d);
}
