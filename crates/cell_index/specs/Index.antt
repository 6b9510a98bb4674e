-- What a look-up finds: of each cell its number among the cells.
use Rattle.std.specs.Prelude.{◌≡◌, ℕ, ◌+◌, ◌^◌, ◌<◌, ◌≤◌, List, length, None, unwrap_or, if◌then◌else◌, Vec, vec_len, vec_capacity}
use Rattle.std.specs.List.{list_any, IsDistinct}
use Rattle.std.specs.declared.alloc.Global.{Global}
use Rattle.indexmap.specs.IndexMap.{IndexMap, get, spare}
use Rattle.teb_rules.specs.declared.names.Cell.{Cell}
use Rattle.teb_rules.specs.names.Cells.{same_cell}
use Rattle.cell_index.specs.declared.blocks.Blocks.{Blocks}
use Rattle.cell_index.specs.Blocks.{slots, owner_of, number_or, IsPaged}
use Rattle.cell_index.specs.Cells.{place_in}

-- the number of a cell among the cells: one more than its place; 0 if it has none
abbrev pub number_in : List Cell → Cell → ℕ
number_in cells x = if list_any (same_cell x) cells then place_in cells x + 1 else 0

-- its number in the map of the cells of blocks that have no slot
abbrev pub far_number : {S : Type 0} → IndexMap Cell ℕ S → Cell → ℕ
far_number far x = unwrap_or (get same_cell far x) 0

-- pages and map give each cell its number, there is no cell whose slot no block has, and there is room for n more cells
pub record IsIndex {S : Type 0} (blocks : Blocks) (far : IndexMap Cell ℕ S) (cells : Vec Cell Global) (n : ℕ) : Type 0 where
  pub unique : IsDistinct same_cell cells.items
  pub paged : IsPaged blocks
  pub found : (x : Cell) → number_or blocks x (far_number far x) ≡ number_in cells.items x
  pub vacant : (x : Cell) → owner_of blocks x ≡ None → number_in cells.items x ≡ 0
  pub slots_room : 0 < n → slots ≤ length blocks.owners.items
  pub far_room : n ≤ spare far
  pub cells_room : vec_len cells + n ≤ vec_capacity cells
  pub short : vec_len cells + n < 2 ^ 32
