use Rattle.std.proofs.Common.{ℕ, ◌<◌, ℤ}
use Rattle.std.specs.Prelude.{slice_index_or}
use Rattle.teb_rules.specs.declared.names.Cell.{Cell}
use Rattle.engine_store.proofs.found.are_of_tables.Given as goal

abbrev pub invariant-loop-row : goal.invariant-loop-row
invariant-loop-row l = (k : ℕ) (d : Cell × ℤ) → k < l.row-index → (slice_index_or l.rows k d).0.table.0 < l.tables
