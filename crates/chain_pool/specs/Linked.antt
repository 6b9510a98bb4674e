-- Places as chains, writers' lists and one list of free places.
use Rattle.std.specs.Prelude.{◌≡◌, ℕ, ◌-◌, ◌<◌, ◌^◌, List, length, map, IsSome}
use Rattle.teb_rules.specs.declared.names.Cell.{Cell}
use Rattle.teb_rules.specs.declared.names.Txn.{Txn}
use Rattle.version_chain.specs.Lists.{Version}
use Rattle.chain_pool.specs.declared.places.Place.{Place}
use Rattle.chain_pool.specs.declared.places.Head.{Head}
use Rattle.chain_pool.specs.declared.places.Chain.{Chain}
use Rattle.chain_pool.specs.Threads.{Thread, Ring, walk, steps}
use Rattle.chain_pool.specs.Places.{slot_at, next_at, previous_at, sibling_at, pair_at, InChain, IsOwned, IsFree}

-- each place is in its cell's chain and its writer's list, or is free; no writer has two versions of a cell; and the number of places fits 32 bits
pub record Linked (ps : List Place) (chain : Cell → Head) (own : Txn → Head) (unused : Head) : Type 0 where
  pub chains : (x : Cell) → Ring (InChain ps x) (next_at ps) (previous_at ps) (chain x).first (chain x).len
  pub owners : (t : Txn) → Thread (IsOwned ps t) (sibling_at ps) (own t).first (own t).len
  pub frees : Thread (IsFree ps) (sibling_at ps) unused.first unused.len
  pub short : length ps < 2 ^ 32
  pub once : (x : Cell) (t : Txn) (p q : ℕ) → InChain ps x p → InChain ps x q → IsOwned ps t p → IsOwned ps t q → p ≡ q

-- a chain that is not empty has its last place before its first
abbrev pub HasLasts : List Place → (Cell → Head) → (Cell → ℕ) → Type 0
HasLasts ps chain last = (x : Cell) → 0 < (chain x).len → last x ≡ previous_at ps (chain x).first

-- a chain can be walked from its end: if it is not empty, its last place is before its first, and each place on the way back holds a version
pub record IsWalkable (ps : List Place) (c : Chain) : Type 0 where
  pub last : 0 < c.head.len → c.last ≡ previous_at ps c.head.first
  pub used : (n : ℕ) → 0 < c.head.len → IsSome (slot_at ps (steps (previous_at ps) n c.head.first)).version

-- the versions of a chain
abbrev pub versions : List Place → Head → List Version
versions ps h = map (pair_at ps) (walk (next_at ps) h.len h.first)

-- the place that is the j-th of a chain, found from its end
abbrev pub nth_place : List Place → Head → ℕ → ℕ
nth_place ps h j = steps (previous_at ps) (h.len - j) h.first
