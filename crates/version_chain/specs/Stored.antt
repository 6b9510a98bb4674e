-- One list of versions, each with its cell.
use Rattle.std.specs.Prelude.{◌≡◌, ℕ, ◌+◌, ◌<◌, ◌≤◌, List, length, map, filter, slice_index_or}
use Rattle.std.specs.declared.cmp.Ordering.TheVariants.{Less, Greater}
use Rattle.std.specs.List.Sorted.{IsSortedByKey}
use Rattle.teb_rules.specs.declared.names.Cell.{Cell}
use Rattle.teb_rules.specs.names.Cells.{same_cell}
use Rattle.version_chain.specs.declared.sorted.Stored.{Stored}
use Rattle.version_chain.specs.Lists.{Version}
use Rattle.version_chain.specs.CellOrder.{cell_cmp}

-- what is stored beside the cell
abbrev pub version : Stored → Version
version v = (v.writer, v.value)

-- the versions of a cell
abbrev pub of_cell : Cell → List Stored → List Version
of_cell x vs = map version (filter (λ v. same_cell v.cell x) vs)

-- no version is before one of a lesser cell
abbrev pub IsSortedByCell : List Stored → Type 0
IsSortedByCell vs = IsSortedByKey (λ v. v.cell) cell_cmp vs

-- the versions of a cell are the len ones from start on
pub record IsRange (vs : List Stored) (x : Cell) (start len : ℕ) : Type 0 where
  pub within : start + len ≤ length vs
  pub before : (j : ℕ) (d : Stored) → j < start → cell_cmp (slice_index_or vs j d).cell x ≡ Less
  pub here : (j : ℕ) (d : Stored) → start ≤ j → j < start + len → (slice_index_or vs j d).cell ≡ x
  pub after : (j : ℕ) (d : Stored) → start + len ≤ j → j < length vs → cell_cmp (slice_index_or vs j d).cell x ≡ Greater
