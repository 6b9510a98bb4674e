-- A pool is sound in at most one way: the links determine the places of a list.
use Rattle.std.specs.Prelude.{◌≡◌, ℕ, zero, suc, ◌+◌, ◌<◌, List, [], ◌∷◌, length, slice_index}
use Rattle.std.specs.Coded.{Σ_prop, Π_prop, →_prop}
use Rattle.std.proofs.Common.{refl, sym, ◌∙◌, ap, arith}
use Rattle.std.proofs.Props.{props}
use mathlib.Core.HLevel.{Σ_prop_path}
use Rattle.chain_pool.specs.declared.pool.Pool.{Pool}
use Rattle.chain_pool.specs.Threads.{Thread, walk}
use Rattle.chain_pool.specs.Pools.{IsSound}

walk_is : (next : ℕ → ℕ) (L : List ℕ) (n p : ℕ) → length L ≡ n → (0 < n → p ≡ slice_index L 0) → ((j : ℕ) → j + 1 < n → next (slice_index L j) ≡ slice_index L (j + 1)) → walk next n p ≡ L
walk_is next [] zero p len head link = refl
walk_is next (x ∷ L) zero p len head link = absurd (omega (arith, len))
walk_is next [] (suc n) p len head link = absurd (omega (arith, len))
walk_is next (x ∷ L) (suc n) p len head link =
    let e : p ≡ x = head (omega arith) in
    let rest : walk next n (next p) ≡ L = walk_is next L n (next p) (omega (arith, len)) (λ lt. ap next e ∙ link 0 (omega arith)) (λ j lt. let e : suc j + 1 ≡ suc (j + 1) = omega arith in
    link (suc j) (omega arith) ∙ ap (λ k. slice_index (x ∷ L) k) e) in
    ap (λ h. h ∷ walk next n (next p)) e ∙ ap (λ t. x ∷ t) rest

-- the places of a list are those that the links lead to
pub thread-walk : (mine : ℕ → Type 0) (next : ℕ → ℕ) (first len : ℕ) (t : Thread mine next first len) → walk next len first ≡ t.places
thread-walk mine next first len t = walk_is next t.places len first t.count t.head t.link

-- what holds of the places of a list beside that they are all
record IsLine (mine : ℕ → Type 0) (next : ℕ → ℕ) (first len : ℕ) (places : List ℕ) : Type 0 where
  count : length places ≡ len
  head : 0 < len → first ≡ slice_index places 0
  link : (j : ℕ) → j + 1 < len → next (slice_index places j) ≡ slice_index places (j + 1)
  inside : (j : ℕ) → j < len → mine (slice_index places j)
  distinct : (i j : ℕ) → i < len → j < len → slice_index places i ≡ slice_index places j → i ≡ j

abbrev AreAll : (ℕ → Type 0) → ℕ → List ℕ → Type 0
AreAll mine len places = (p : ℕ) → mine p → (j : ℕ) × ((j < len) × (slice_index places j ≡ p))

module _ (mine : ℕ → Type 0) (next : ℕ → ℕ) (first len : ℕ) (each : (p : ℕ) → IsProp (mine p)) where
  line_prop : (L : List ℕ) → IsProp (IsLine mine next first len L)
  line_prop L = Prim.hlevel (props, each)

  at_prop : (L : List ℕ) (p j : ℕ) → IsProp ((j < len) × (slice_index L j ≡ p))
  at_prop L p j = Prim.hlevel props

  index_prop : (L : List ℕ) → IsLine mine next first len L → (p : ℕ) → IsProp ((j : ℕ) × ((j < len) × (slice_index L j ≡ p)))
  index_prop L line p u v = Σ_prop_path (at_prop L p) (line.distinct u.0 v.0 u.1.0 v.1.0 (u.1.1 ∙ sym v.1.1))

  all_prop : (L : List ℕ) → IsLine mine next first len L → IsProp (AreAll mine len L)
  all_prop L line = Π_prop (λ p. →_prop (index_prop L line p))

  abbrev Parts : Type 0
  Parts = (L : List ℕ) × (IsLine mine next first len L × AreAll mine len L)

  abbrev parts : Thread mine next first len → Parts
  parts t = (t.places, (record { count = t.count; head = t.head; link = t.link; inside = t.inside; distinct = t.distinct }, t.complete))

  pub Thread-prop : IsProp (Thread mine next first len)
  Thread-prop s t =
      let same : ◌≡◌ {A = Parts} (parts s) (parts t) =
      Σ_prop_path (λ L. Σ_prop (line_prop L) (all_prop L)) (sym (thread-walk mine next first len s) ∙ thread-walk mine next first len t) in
      λ i. record {
        places = (same i).0;
        count = (same i).1.0.count;
        head = (same i).1.0.head;
        link = (same i).1.0.link;
        inside = (same i).1.0.inside;
        distinct = (same i).1.0.distinct;
        complete = (same i).1.1;
      }

ruleset lists = (props, Thread-prop)

pub IsSound-prop : (p : Pool) → IsProp (IsSound p)
IsSound-prop p = Prim.hlevel lists

pub ruleset kept = (props, IsSound-prop)
