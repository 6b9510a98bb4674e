-- The form of a row.
use Rattle.std.specs.Prelude.{ℤ, List, map}
use Rattle.teb_rules.specs.declared.names.Cell.{Cell}
use Rattle.c_forms.specs.declared.rows.RowForm.{RowForm}

abbrev pub row_form : Cell × ℤ → RowForm
row_form r = record { table = r.0.table.0; key = r.0.key; value = r.1 }

abbrev pub row_forms : List (Cell × ℤ) → List RowForm
row_forms rs = map row_form rs
