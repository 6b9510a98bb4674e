-- How a book holds what contracts see of it: each cell has a place, the accessors of a cell have the list of that place, and an access holds it.
use Rattle.std.specs.Prelude.{◌≡◌, ◌≤◌, ◌<◌, ◌+◌, ◌*◌, ◌^◌, ℕ, Bool, true, false, eqb, List, length, map, reverse, get_or}
use Rattle.std.specs.List.{list_any, count_by, AllByRecursion, IsDistinct}
use Rattle.teb_rules.specs.declared.names.Cell.{Cell}
use Rattle.teb_rules.specs.declared.names.Txn.{Txn}
use Rattle.teb_rules.specs.names.Cells.{same_cell}
use Rattle.cell_index.specs.Cells.{Shown as Index}
use Rattle.arena_multimap.specs.NumberedLists.{Shown as Numbered, list_in}
use Rattle.access_book.specs.declared.accesses.Touch.{Touch}
use Rattle.access_book.specs.declared.accesses.Touch.TheVariants as touch
use Rattle.access_book.specs.Books.{Shown}
use Rattle.access_book.specs.Touched.{Touched, Reads, Puts}

-- the cell of a place
abbrev pub cell_at : List Cell → ℕ → Cell
cell_at cells p = get_or cells p (record { table = record { 0 = 0 }; key = 0 })

-- the place that an access holds
abbrev pub touch_place : Touch → ℕ
touch_place (touch.Read p) = p
touch_place (touch.Put p) = p

-- the access that a stored one means
abbrev pub touched_at : List Cell → Touch → Touched
touched_at cells (touch.Read p) = Reads (cell_at cells p)
touched_at cells (touch.Put p) = Puts (cell_at cells p)

-- the accesses that stored ones mean, the newest first
abbrev pub all_touched : List Cell → List Touch → List Touched
all_touched cells zs = reverse (map (touched_at cells) zs)

-- one of them reads at place i, or puts there
abbrev pub reads_here : ℕ → Touch → Bool
reads_here i (touch.Read p) = eqb i p
reads_here i (touch.Put p) = false

abbrev pub puts_here : ℕ → Touch → Bool
puts_here i (touch.Read p) = false
puts_here i (touch.Put p) = eqb i p

abbrev pub reads_at : ℕ → List Touch → Bool
reads_at i zs = list_any (reads_here i) zs

abbrev pub puts_at : ℕ → List Touch → Bool
puts_at i zs = list_any (puts_here i) zs

-- how many of them put something
abbrev pub holds_put : Touch → Bool
holds_put (touch.Read p) = false
holds_put (touch.Put p) = true

abbrev pub puts_held : List Touch → ℕ
puts_held zs = count_by holds_put zs

-- they hold places among n
abbrev pub AreKnown : ℕ → List Touch → Type 0
AreKnown n zs = AllByRecursion (λ z. touch_place z < n) zs

abbrev pub shown_of : List Cell → (readers writers committed : List (List Txn)) → List (List Touch) → (pending spare : ℕ) → Shown
shown_of cells readers writers committed touches pending spare = record {
  cells = cells;
  readers = readers;
  writers = writers;
  committed = committed;
  touched = map (all_touched cells) touches;
  begun = length touches;
  pending = pending;
  spare = spare;
}

-- each cell once, and lists for each; each access is of one of them. There is room for n events, each of which may begin lists for its cell and put one value in one of
-- them, and among the committed writers for all Puts that are pending, whose number fits with that
pub record IsBook (index : Index) (readers writers committed : Numbered Txn) (touches : Numbered Touch) (pending n : ℕ) : Type 0 where
  pub unique : IsDistinct same_cell index.cells
  pub readers_paired : length readers.lists ≡ length index.cells
  pub writers_paired : length writers.lists ≡ length index.cells
  pub committed_paired : length committed.lists ≡ length index.cells
  pub known : (i : ℕ) → AreKnown (length index.cells) (list_in touches.lists i)
  pub cells_room : n ≤ index.spare
  pub readers_room : 2 * n ≤ readers.spare
  pub writers_room : 2 * n ≤ writers.spare
  pub committed_room : 2 * n + pending ≤ committed.spare
  pub touches_room : n ≤ touches.spare
  pub fits : 2 * n + pending < 2 ^ 64
