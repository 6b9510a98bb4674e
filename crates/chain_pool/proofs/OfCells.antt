-- A chain that was looked up in a sound pool.
use Rattle.std.proofs.Common.{◌≡◌, ◌∙◌, ℕ, ◌-◌, ◌<◌, List, length, refl, sym, ap, subst, arith, IsSome}
use Rattle.teb_rules.specs.declared.names.Cell.{Cell}
use Rattle.chain_pool.specs.declared.places.Place.{Place}
use Rattle.chain_pool.specs.declared.places.Head.{Head}
use Rattle.chain_pool.specs.declared.places.Chain.{Chain}
use Rattle.chain_pool.specs.declared.pool.Pool.{Pool}
use Rattle.chain_pool.specs.Places.{slot_at}
use Rattle.chain_pool.specs.Heads.{chain_at, chain_head, last_of}
use Rattle.chain_pool.specs.Linked.{IsWalkable, nth_place}
use Rattle.chain_pool.specs.Pools.{IsSound, chain_of}
use Rattle.chain_pool.proofs.Sizes.{walkable}
use Rattle.chain_pool.proofs.Chains.{versions_len}

module _ (p : Pool) (x : Cell) (c : Chain) (s : IsSound p) (of_cell : c ≡ chain_at p.cells.entries x) where
  pub head_is : c.head ≡ chain_head p.cells.entries x
  head_is = ap (λ (k : Chain). k.head) of_cell

  pub len_is : c.head.len ≡ length (chain_of p x)
  len_is = ap (λ (h : Head). h.len) head_is ∙ sym (versions_len p.places.items _ _ p.unused s.linked x)

  pub walk_of : (qs : List Place) → qs ≡ p.places.items → IsWalkable qs c
  walk_of qs same = walkable p.places.items (chain_head p.cells.entries) _ p.unused s.linked (last_of p.cells.entries) s.lasts qs same x c head_is (ap (λ (k : Chain). k.last) of_cell)

  -- the place of a version of the chain holds one
  pub used_at : (qs : List Place) → qs ≡ p.places.items → (i : ℕ) → i < c.head.len → (place : ℕ) → place ≡ nth_place p.places.items c.head i → IsSome (slot_at qs place).version
  used_at qs same i lt place is =
      subst (λ (rs : List Place). IsSome (slot_at rs place).version) (sym same)
      (subst (λ q. IsSome (slot_at p.places.items q).version) (sym is) ((walk_of p.places.items refl).used (c.head.len - i) (omega (arith, lt))))
