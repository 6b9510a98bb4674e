-- What a place holds, and to which lists it belongs.
use Rattle.std.specs.Prelude.{◌≡◌, ℕ, ◌<◌, List, length, slice_index_or, Option, Some, None, ℤ, unwrap_or, option_map}
use Rattle.teb_rules.specs.declared.names.Cell.{Cell}
use Rattle.teb_rules.specs.declared.names.Txn.{Txn}
use Rattle.chain_pool.specs.declared.places.Version.{Version}
use Rattle.chain_pool.specs.declared.places.Content.{Content}
use Rattle.chain_pool.specs.declared.places.Content.TheVariants.{Free, Deleted, Value}
use Rattle.chain_pool.specs.declared.places.Place.{Place}

-- the version of a place, None if it is free, and the next place in its writer's list, or in the list of free places
pub record Slot : Type 0 where
  pub version : Option Version
  pub sibling : ℕ

-- the version that a place of this cell and writer holds, by its content; None if it is free
abbrev pub version_of : Cell → Txn → Content → Option Version
version_of cell writer Free = None
version_of cell writer Deleted = Some (record { cell = cell; writer = writer; value = None })
version_of cell writer (Value value) = Some (record { cell = cell; writer = writer; value = Some value })

abbrev pub slot_of : Place → Slot
slot_of p = record { version = version_of p.cell p.writer p.content; sibling = p.sibling }

-- what is read of a place that does not exist
abbrev pub blank : Place
blank = record { cell = record { table = record { 0 = 0 }; key = 0 }; writer = record { 0 = 0 }; sibling = 0; previous = 0; next = 0; content = Free }

abbrev pub place_at : List Place → ℕ → Place
place_at ps p = slice_index_or ps p blank

abbrev pub slot_at : List Place → ℕ → Slot
slot_at ps p = slot_of (place_at ps p)

abbrev pub next_at : List Place → ℕ → ℕ
next_at ps p = (place_at ps p).next

abbrev pub previous_at : List Place → ℕ → ℕ
previous_at ps p = (place_at ps p).previous

abbrev pub sibling_at : List Place → ℕ → ℕ
sibling_at ps p = (slot_at ps p).sibling

-- the cell and the writer of what a slot holds
abbrev pub cell_in : Slot → Option Cell
cell_in s = option_map (λ v. v.cell) s.version

abbrev pub writer_in : Slot → Option Txn
writer_in s = option_map (λ v. v.writer) s.version

-- the writer and the value, as a chain shows them
abbrev pub pair_in : Slot → Txn × Option ℤ
pair_in s = unwrap_or (option_map (λ v. (v.writer, v.value)) s.version) (record { 0 = 0 }, None)

abbrev pub pair_at : List Place → ℕ → Txn × Option ℤ
pair_at ps p = pair_in (slot_at ps p)

-- the slot, its version with another value
abbrev pub with_value : Slot → Option ℤ → Slot
with_value s value = record { version = option_map (λ (v : Version). record { cell = v.cell; writer = v.writer; value = value }) s.version; sibling = s.sibling }

-- a place of a cell's chain, of a writer's list, and of the list of free places
pub record InChain (ps : List Place) (x : Cell) (p : ℕ) : Type 0 where
  pub within : p < length ps
  pub is_mine : cell_in (slot_at ps p) ≡ Some x

pub record IsOwned (ps : List Place) (t : Txn) (p : ℕ) : Type 0 where
  pub within : p < length ps
  pub is_mine : writer_in (slot_at ps p) ≡ Some t

pub record IsFree (ps : List Place) (p : ℕ) : Type 0 where
  pub within : p < length ps
  pub free : (slot_at ps p).version ≡ None
