-- Heads of lists, by key.
use Rattle.std.specs.Prelude.{◌<◌, ℕ, ◌-◌, ◌==◌, Bool, List, [], ◌∷◌, ◌++◌, length, eqb, if◌then◌else◌, unwrap_or, IfSome}
use Rattle.std.specs.Map.{lookup}
use Rattle.teb_rules.specs.declared.names.Cell.{Cell}
use Rattle.teb_rules.specs.declared.names.Txn.{Txn}
use Rattle.teb_rules.specs.names.Cells.{same_cell}
use Rattle.chain_pool.specs.declared.places.Head.{Head}
use Rattle.chain_pool.specs.declared.places.Chain.{Chain}

-- the head of an empty list
abbrev pub empty : Head
empty = record { first = 0; len = 0 }

-- an empty chain
abbrev pub no_chain : Chain
no_chain = record { head = empty; last = 0 }

-- cells in the order of their places, each beside its chain, and for how many more there is room
pub record CellHeads : Type 0 where
  pub entries : List (Cell × Chain)
  pub spare : ℕ

-- the chains, with one more if a place is the next one
abbrev pub with_next : List Chain → ℕ → List Chain
with_next chains at = if at == length chains then chains ++ no_chain ∷ [] else chains

-- the head after a place is removed; if that was the first, the next one becomes the first
abbrev pub without_place : Head → ℕ → ℕ → Head
without_place h place next = record { first = (if h.first == place then next else h.first); len = h.len - 1 }

-- the last place after a place is removed; if that was the last, the previous one becomes the last
abbrev pub last_without : ℕ → ℕ → ℕ → ℕ
last_without last place previous = if last == place then previous else last

abbrev pub same_txn : Txn → Txn → Bool
same_txn t u = eqb t.0 u.0

-- the chain of a cell, empty if the cell has no entry; its head, and its last place
abbrev pub chain_at : List (Cell × Chain) → Cell → Chain
chain_at cells x = unwrap_or (lookup (same_cell x) cells) no_chain

abbrev pub chain_head : List (Cell × Chain) → Cell → Head
chain_head cells x = (chain_at cells x).head

abbrev pub last_of : List (Cell × Chain) → Cell → ℕ
last_of cells x = (chain_at cells x).last

-- the head of a writer's list; empty if the writer has no entry
abbrev pub writer_head : List (Txn × Head) → Txn → Head
writer_head writers t = unwrap_or (lookup (same_txn t) writers) empty

-- the heads of the writers' lists, with h for t's
abbrev pub with_head : Txn → Head → (Txn → Head) → Txn → Head
with_head t h own u = if same_txn t u then h else own u

-- no entry is the head of an empty list
abbrev pub IsBusy : List (Txn × Head) → Type 0
IsBusy writers = (t : Txn) → IfSome (lookup (same_txn t) writers) (λ h. 0 < h.len)
