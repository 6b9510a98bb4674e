-- A pool as contracts see it.
use Rattle.std.proofs.Common.{true, false, ◌≡◌, ◌≢◌, ℕ, ◌≤◌, sym, ◌∙◌, ap, arith, IsFalse}
use Rattle.teb_rules.specs.declared.names.Cell.{Cell}
use Rattle.teb_rules.specs.names.Cells.{same_cell}
use Rattle.version_chain.proofs.Cells.{same_cell-itself}
use Rattle.chain_pool.specs.declared.places.Chain.{Chain}
use Rattle.chain_pool.specs.declared.pool.Pool.{Pool}
use Rattle.chain_pool.specs.Heads.{no_chain}
use Rattle.chain_pool.specs.Linked.{versions}
use Rattle.chain_pool.specs.Pools.{chain_of, HasRoom}
use Rattle.chain_pool.specs.View.{View, list_in, view_of}
use Rattle.chain_pool.proofs.Lookups.{lookup_map}

pub view_list : (p : Pool) (n : ℕ) (x : Cell) → list_in (view_of p n) x ≡ chain_of p x
view_list p n x = lookup_map (λ (c : Chain). versions p.places.items c.head) (same_cell x) p.cells.entries no_chain

pub seen : (v : View) (p : Pool) (n : ℕ) → view_of p n ≡ v → (x : Cell) → chain_of p x ≡ list_in v x
seen v p n is x = sym (view_list p n x) ∙ ap (λ w. list_in w x) is

pub apart_from : (x cell : Cell) → IsFalse (same_cell x cell) → cell ≢ x
apart_from x cell differs e = let z : true ≡ false = sym (same_cell-itself x) ∙ (ap (same_cell x) (sym e) ∙ differs) in cc

pub less_room : (p : Pool) (m n : ℕ) → n ≤ m → HasRoom p m → HasRoom p n
less_room p m n le r = record { places = omega (arith, le, r.places); short = omega (arith, le, r.short); cells = omega (arith, le, r.cells); writers = omega (arith, le, r.writers) }
