-- A whole pool.
use Rattle.std.specs.Prelude.{ℕ, ◌+◌, ◌<◌, ◌≤◌, ◌^◌, List, vec_len, vec_capacity}
use Rattle.teb_rules.specs.declared.names.Cell.{Cell}
use Rattle.teb_rules.specs.declared.names.Txn.{Txn}
use Rattle.version_chain.specs.Lists.{Version}
use Rattle.indexmap.specs.IndexMap.{spare}
use Rattle.chain_pool.specs.declared.places.Head.{Head}
use Rattle.chain_pool.specs.declared.pool.Pool.{Pool}
use Rattle.chain_pool.specs.Heads.{chain_head, last_of, writer_head, with_head, IsBusy}
use Rattle.chain_pool.specs.Linked.{Linked, HasLasts, versions}

-- its links are sound, its chains' last places are known, and a writer without versions has no entry
pub record IsSound (p : Pool) : Type 0 where
  pub linked : Linked p.places.items (chain_head p.cells.entries) (writer_head p.writers.entries) p.unused
  pub lasts : HasLasts p.places.items (chain_head p.cells.entries) (last_of p.cells.entries)
  pub busy : IsBusy p.writers.entries

-- the same with own as the list of t, which was taken out of the entries
pub record IsSoundWith (p : Pool) (t : Txn) (own : Head) : Type 0 where
  pub linked : Linked p.places.items (chain_head p.cells.entries) (with_head t own (writer_head p.writers.entries)) p.unused
  pub lasts : HasLasts p.places.items (chain_head p.cells.entries) (last_of p.cells.entries)

-- the versions of a cell
abbrev pub chain_of : Pool → Cell → List Version
chain_of p x = versions p.places.items (chain_head p.cells.entries x)

-- the places and the entries have room for n more, and the number of places then still fits 32 bits
pub record HasRoom (p : Pool) (n : ℕ) : Type 0 where
  pub places : vec_len p.places + n ≤ vec_capacity p.places
  pub short : vec_len p.places + n < 2 ^ 32
  pub cells : n ≤ p.cells.spare
  pub writers : n ≤ spare p.writers
