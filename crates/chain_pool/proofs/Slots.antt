-- Writing a slot: what stays unchanged elsewhere, and the versions of a chain.
use Rattle.std.proofs.Common.{true, false, ◌≡◌, ◌==◌, ℕ, suc, ◌-◌, ◌<◌, ◌≢◌, List, [], ◌∷◌, ◌++◌, length, get_or, take, drop}
use Rattle.std.proofs.Common.{map, refl, sym, ◌∙◌, ap, arith, if◌then◌else◌, Option, Some, None, ℤ, unwrap_or, eq-eqb}
use Rattle.std.specs.List.{insert, remove}
use Rattle.std.specs.Option.{option_map}
use Rattle.std.proofs.lemmas.Bool.Decides.{nat_tests}
use Rattle.std.proofs.lemmas.List.{map-append, take-map, drop-map}
use Rattle.teb_rules.specs.declared.names.Cell.{Cell}
use Rattle.teb_rules.specs.declared.names.Txn.{Txn}
use Rattle.chain_pool.specs.declared.places.Version.{Version as Stored}
use Rattle.chain_pool.specs.declared.places.Place.{Place}
use Rattle.chain_pool.specs.declared.places.Head.{Head}
use Rattle.chain_pool.specs.Threads.{Ring}
use Rattle.chain_pool.specs.Places.{Slot, slot_at, next_at, previous_at, cell_in, writer_in, pair_in, pair_at, InChain, IsOwned, IsFree}
use Rattle.chain_pool.specs.Linked.{versions}
use Rattle.chain_pool.specs.Props.{thread-walk}
use Rattle.chain_pool.proofs.Rings.{last_place}

-- a choice by comparing two numbers
pub chosen : {X : Type 0} (r q : ℕ) (x y : X) → r ≡ q → (if r == q then x else y) ≡ x
chosen r q x y e = let t : (r == q) ≡ true = eq-eqb r q e in rw t

pub passed : {X : Type 0} (r q : ℕ) (x y : X) → r ≢ q → (if r == q then x else y) ≡ y
passed r q x y ne = let t : (r == q) ≡ false = grind (arith, nat_tests) in rw t

pub map-insert : {X Y : Type 0} (f : X → Y) (L : List X) (i : ℕ) (x : X) → map f (insert L i x) ≡ insert (map f L) i (f x)
map-insert f L i x = map-append f (take i L) (x ∷ drop i L) ∙ (ap (λ l. l ++ f x ∷ map f (drop i L)) (sym (take-map f i L)) ∙ ap (λ l. take i (map f L) ++ f x ∷ l) (sym (drop-map f i L)))

pub map-remove : {X Y : Type 0} (f : X → Y) (L : List X) (i : ℕ) → map f (remove L i) ≡ remove (map f L) i
map-remove f L i = map-append f (take i L) (drop (suc i) L) ∙ (ap (λ l. l ++ map f (drop (suc i) L)) (sym (take-map f i L)) ∙ ap (λ l. take i (map f L) ++ l) (sym (drop-map f (suc i) L)))

pub map-agree : {Y : Type 0} (f g : ℕ → Y) (L : List ℕ) → ((j : ℕ) → j < length L → f (get_or L j 0) ≡ g (get_or L j 0)) → map f L ≡ map g L
map-agree f g [] h = refl
map-agree f g (x ∷ L) h = ap (λ y. y ∷ map f L) (h 0 (omega arith)) ∙ ap (λ l. g x ∷ l) (map-agree f g L (λ j lt. h (suc j) (omega arith)))

-- a place is in at most one chain and in at most one writer's list, and is then not free
module _ (ps : List Place) (p : ℕ) where
  pub one_chain : (x y : Cell) → InChain ps x p → InChain ps y p → x ≡ y
  one_chain x y m n = let e : Some x ≡ Some y = sym m.is_mine ∙ n.is_mine in cc

  pub one_owner : (t u : Txn) → IsOwned ps t p → IsOwned ps u p → t ≡ u
  one_owner t u m n = let e : Some t ≡ Some u = sym m.is_mine ∙ n.is_mine in cc

  pub free_chain : (x : Cell) → IsFree ps p → InChain ps x p → ⊥
  free_chain x f m = let e : None ≡ Some x = sym (ap (option_map (λ (v : Stored). v.cell)) f.free) ∙ m.is_mine in cc

  pub free_owned : (t : Txn) → IsFree ps p → IsOwned ps t p → ⊥
  free_owned t f m = let e : None ≡ Some t = sym (ap (option_map (λ (v : Stored). v.writer)) f.free) ∙ m.is_mine in cc

-- the writer of a version in a chain is the transaction whose list has its place
pub pair_owner : (ps : List Place) (t : Txn) (p : ℕ) → IsOwned ps t p → (pair_at ps p).0 ≡ t
pair_owner ps t p m = from (slot_at ps p).version m.is_mine
  where
    from : (o : Option Stored) → option_map (λ v. v.writer) o ≡ Some t → (unwrap_or {T = Txn × Option ℤ} (option_map (λ v. (v.writer, v.value)) o) (record { 0 = 0 }, None)).0 ≡ t
    from None e = let z : None ≡ Some t = e in cc
    from (Some v) e = let z : Some v.writer ≡ Some t = e in cc

pub owner_pair : (ps : List Place) (x : Cell) (t : Txn) (p : ℕ) → InChain ps x p → (pair_at ps p).0 ≡ t → IsOwned ps t p
owner_pair ps x t p m is = record { within = m.within; is_mine = from (slot_at ps p).version m.is_mine is }
  where
    from : (o : Option Stored) → option_map (λ v. v.cell) o ≡ Some x → (unwrap_or {T = Txn × Option ℤ} (option_map (λ v. (v.writer, v.value)) o) (record { 0 = 0 }, None)).0 ≡ t
        → option_map (λ v. v.writer) o ≡ Some t
    from None e is = let z : None ≡ Some x = e in cc
    from (Some v) e is = ap Some is

-- a ring with given places
abbrev pub RingWith : (ℕ → Type 0) → (ℕ → ℕ) → (ℕ → ℕ) → Head → List ℕ → Type 0
RingWith mine next previous h L = (r : Ring mine next previous h.first h.len) × (r.thread.places ≡ L)

pub ring-versions : (ps : List Place) (x : Cell) (h : Head) (L : List ℕ) → RingWith (InChain ps x) (next_at ps) (previous_at ps) h L → versions ps h ≡ map (pair_at ps) L
ring-versions ps x h L r = ap (map (pair_at ps)) (thread-walk (InChain ps x) (next_at ps) h.first h.len r.0.thread ∙ r.1)

-- the place before the first is the last
pub ring-end : (ps : List Place) (x : Cell) (h : Head) (L : List ℕ) → RingWith (InChain ps x) (next_at ps) (previous_at ps) h L → 0 < h.len → previous_at ps h.first ≡ get_or L (h.len - 1) 0
ring-end ps x h L r some = last_place (InChain ps x) (next_at ps) (previous_at ps) h.first h.len r.0 some ∙ ap (λ l. get_or l (h.len - 1) 0) r.1

pub same-end : (ps ps' : List Place) (x : Cell) (h : Head) (L : List ℕ) → RingWith (InChain ps x) (next_at ps) (previous_at ps) h L → RingWith (InChain ps' x) (next_at ps') (previous_at ps') h L
    → 0 < h.len → previous_at ps h.first ≡ previous_at ps' h.first
same-end ps ps' x h L r r' some = ring-end ps x h L r some ∙ sym (ring-end ps' x h L r' some)

-- what stays unchanged if one slot is written
module _ (ps ps' : List Place) (q : ℕ) (s : Slot) (len : length ps' ≡ length ps) (slots : (r : ℕ) → slot_at ps' r ≡ (if r == q then s else slot_at ps r)) where
  pub slot_here : slot_at ps' q ≡ s
  slot_here = slots q ∙ chosen q q s (slot_at ps q) refl

  pub slot_else : (r : ℕ) → r ≢ q → slot_at ps' r ≡ slot_at ps r
  slot_else r ne = slots r ∙ passed r q s (slot_at ps r) ne

  pub pair_else : (r : ℕ) → r ≢ q → pair_at ps' r ≡ pair_at ps r
  pair_else r ne = ap pair_in (slot_else r ne)

  pub chain_kept : (x : Cell) (p : ℕ) → p ≢ q → InChain ps x p → InChain ps' x p
  chain_kept x p ne m = record { within = omega (arith, m.within, len); is_mine = ap cell_in (slot_else p ne) ∙ m.is_mine }

  pub chain_was : (x : Cell) (p : ℕ) → p ≢ q → InChain ps' x p → InChain ps x p
  chain_was x p ne m = record { within = omega (arith, m.within, len); is_mine = ap cell_in (sym (slot_else p ne)) ∙ m.is_mine }

  pub owned_kept : (t : Txn) (p : ℕ) → p ≢ q → IsOwned ps t p → IsOwned ps' t p
  owned_kept t p ne m = record { within = omega (arith, m.within, len); is_mine = ap writer_in (slot_else p ne) ∙ m.is_mine }

  pub owned_was : (t : Txn) (p : ℕ) → p ≢ q → IsOwned ps' t p → IsOwned ps t p
  owned_was t p ne m = record { within = omega (arith, m.within, len); is_mine = ap writer_in (sym (slot_else p ne)) ∙ m.is_mine }

  pub free_kept : (p : ℕ) → p ≢ q → IsFree ps p → IsFree ps' p
  free_kept p ne m = record { within = omega (arith, m.within, len); free = ap (λ (z : Slot). z.version) (slot_else p ne) ∙ m.free }

  pub free_was : (p : ℕ) → p ≢ q → IsFree ps' p → IsFree ps p
  free_was p ne m = record { within = omega (arith, m.within, len); free = ap (λ (z : Slot). z.version) (sym (slot_else p ne)) ∙ m.free }
