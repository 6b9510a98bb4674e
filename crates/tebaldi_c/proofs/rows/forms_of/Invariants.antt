use Rattle.std.proofs.Common.{◌≡◌, ◌++◌, drop}
use Rattle.c_forms.specs.Rows.{row_forms}
use Rattle.tebaldi_c.proofs.rows.forms_of.Given as goal

abbrev pub invariant-loop-row : goal.invariant-loop-row
invariant-loop-row l = l.forms.items ++ row_forms (drop l.row-index l.rows) ≡ row_forms l.rows
