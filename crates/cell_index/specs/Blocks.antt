-- Numbers of cells, by blocks of consecutive keys: a block that has its slot has a page, with an entry for each of its cells.
use Rattle.std.specs.Prelude.{◌≡◌, ℕ, ◌+◌, ◌*◌, ◌/◌, ◌%◌, ◌<◌, ◌≤◌, Bool, ◌&&◌, eqb, length, get_or, Option, Some, None, is_none, count_by, IfSome, IsTrue, if◌then◌else◌, vec_capacity}
use Rattle.std.specs.Option.{option_map_or}
use Rattle.teb_rules.specs.declared.names.Cell.{Cell}
use Rattle.teb_rules.specs.names.Cells.{same_cell}
use Rattle.cell_index.specs.declared.blocks.Owner.{Owner}
use Rattle.cell_index.specs.declared.blocks.Blocks.{Blocks}

-- how many keys make a block, and how many slots there are
abbrev pub keys : ℕ
keys = 128

abbrev pub slots : ℕ
slots = 512

-- the slot that the block of a cell falls on
abbrev pub slot_of : Cell → ℕ
slot_of x = (x.key / keys + x.table.0 * 61) % slots

-- which block has the slot of a cell
abbrev pub owner_of : Blocks → Cell → Option Owner
owner_of b x = get_or b.owners.items (slot_of x) None

-- whether it is the block of a cell
abbrev pub has_cell : Owner → Cell → Bool
has_cell o x = eqb o.table.0 x.table.0 && eqb o.block (x.key / keys)

-- the entry of the number of a cell, if its block has the slot
abbrev pub entry_by : Option Owner → Cell → Option ℕ
entry_by None x = None
entry_by (Some o) x = if has_cell o x then Some (o.page + x.key % keys) else None

abbrev pub entry_of : Blocks → Cell → Option ℕ
entry_of b x = entry_by (owner_of b x) x

-- the number of a cell; n if its block has no page
abbrev pub number_or : Blocks → Cell → ℕ → ℕ
number_or b x n = option_map_or (λ e. get_or b.numbers.items e 0) (entry_of b x) n

-- each entry is that of one cell, there are no more pages than slots that a block has, and there is room for a page for each slot
pub record IsPaged (b : Blocks) : Type 0 where
  pub within : (x : Cell) → IfSome (entry_of b x) (λ e. e < length b.numbers.items)
  pub apart : (x y : Cell) (e : ℕ) → entry_of b x ≡ Some e → entry_of b y ≡ Some e → IsTrue (same_cell x y)
  pub few : length b.owners.items ≤ slots
  pub pages : length b.numbers.items + keys * count_by is_none b.owners.items ≤ keys * length b.owners.items
  pub room : keys * length b.owners.items ≤ vec_capacity b.numbers
