-- What contracts see of a pool: its chains, and room; and what is kept of it.
use Rattle.std.specs.Prelude.{◌≡◌, ℕ, false, List, [], map, unwrap_or}
use Rattle.std.specs.Map.{lookup}
use Rattle.teb_rules.specs.declared.names.Cell.{Cell}
use Rattle.teb_rules.specs.names.Cells.{same_cell}
use Rattle.version_chain.specs.Lists.{Version, is_writer}
use Rattle.chain_pool.specs.declared.pool.Pool.{Pool}
use Rattle.chain_pool.specs.Linked.{versions}
use Rattle.chain_pool.specs.Pools.{IsSound, HasRoom, chain_of}
use Rattle.chain_pool.specs.Latest.{IsAbove}

-- the chains of the cells that have an entry, and for how many more versions there is room
pub record View : Type 0 where
  pub entries : List (Cell × List Version)
  pub spare : ℕ

-- the chain of a cell; empty if the cell has no entry
abbrev pub list_in : View → Cell → List Version
list_in v x = unwrap_or (lookup (same_cell x) v.entries) []

abbrev pub view_of : Pool → ℕ → View
view_of p n = record { entries = map (λ e. (e.0, versions p.places.items e.1.head)) p.cells.entries; spare = n }

-- a writer above the one of the mark that it has with a cell has no version of the cell
abbrev pub IsMarked : Pool → List ℕ → Type 0
IsMarked p latest = (t : ℕ) (x : Cell) → IsAbove latest t x → is_writer (chain_of p x) t ≡ false

pub record Holds (p : Pool) (n : ℕ) (latest : List ℕ) : Type 0 where
  pub sound : IsSound p
  pub room : HasRoom p n
  pub marked : IsMarked p latest
