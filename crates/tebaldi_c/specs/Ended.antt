-- Final rows as C has them.
use Rattle.std.specs.Prelude.{ℕ, ℤ, List, Some}
use Rattle.teb_rules.specs.declared.names.Cell.{Cell}
use Rattle.engine_core.specs.EngineModel.{EngineModel}
use Rattle.teb_rules.specs.Epochs.{AreFinalRows}
use Rattle.c_forms.specs.declared.rows.RowForm.{RowForm}
use Rattle.c_forms.specs.Rows.{row_forms}
use Rattle.tebaldi_c.specs.Buffers.{IsTold}

-- the rows of the final tables are told
abbrev pub AreFinal : EngineModel → List RowForm → List RowForm → ℕ → Type 0
AreFinal e old new n = (rows : List (Cell × ℤ)) × (AreFinalRows e.store e.events rows × IsTold (Some (row_forms rows)) old new n)
