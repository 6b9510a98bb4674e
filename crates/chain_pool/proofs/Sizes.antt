-- No list has more elements than there are places, and a walk along a chain stays within the places.
use Rattle.std.proofs.Common.{◌≡◌, ◌∙◌, ℕ, zero, suc, ◌<◌, List, [], ◌∷◌, length, refl, sym, ap, subst, arith, IsSome, Option, Some, None}
use Rattle.std.specs.Option.{option_map}
use Rattle.std.proofs.lemmas.Bool.{false≢true}
use Rattle.teb_rules.specs.declared.names.Cell.{Cell}
use Rattle.teb_rules.specs.declared.names.Txn.{Txn}
use Rattle.chain_pool.specs.declared.places.Version.{Version as Stored}
use Rattle.chain_pool.specs.declared.places.Place.{Place}
use Rattle.chain_pool.specs.declared.places.Head.{Head}
use Rattle.chain_pool.specs.declared.places.Chain.{Chain}
use Rattle.chain_pool.specs.Threads.{steps}
use Rattle.chain_pool.specs.Places.{slot_at, next_at, previous_at, sibling_at, InChain, IsOwned, IsFree}
use Rattle.chain_pool.specs.Linked.{Linked, HasLasts, IsWalkable}
use Rattle.chain_pool.proofs.Threads.{len-lt, thread-steps}
use Rattle.chain_pool.proofs.Rings.{steps-mine, mine_next, mine_previous}
use Rattle.chain_pool.proofs.Slots.{free_chain, free_owned}

-- a place that holds a version exists
pub used_within : (ps : List Place) (p : ℕ) → IsSome (slot_at ps p).version → p < length ps
used_within [] p some = absurd (false≢true some)
used_within (x ∷ ps) zero some = omega arith
used_within (x ∷ ps) (suc p) some = let lt = used_within ps p some in omega (arith, lt)

-- a place that is in a chain holds a version
pub is_used : (ps : List Place) (x : Cell) (p : ℕ) → InChain ps x p → IsSome (slot_at ps p).version
is_used ps x p m = used (slot_at ps p).version m.is_mine
  where
    used : (o : Option Stored) → option_map (λ v. v.cell) o ≡ Some x → IsSome o
    used None e = let z : None ≡ Some x = e in cc
    used (Some v) e = refl

module _ (ps : List Place) (chain : Cell → Head) (own : Txn → Head) (unused : Head) (S : Linked ps chain own unused) where
  pub walk_mine : (x : Cell) (n : ℕ) → 0 < (chain x).len → InChain ps x (steps (previous_at ps) n (chain x).first)
  walk_mine x n some = steps-mine (InChain ps x) (next_at ps) (previous_at ps) _ _ (S.chains x) n some

  pub walk_within : (x : Cell) (n : ℕ) → 0 < (chain x).len → steps (previous_at ps) n (chain x).first < length ps
  walk_within x n some = let m = walk_mine x n some in m.within

  pub walk_used : (x : Cell) (n : ℕ) → 0 < (chain x).len → IsSome (slot_at ps (steps (previous_at ps) n (chain x).first)).version
  walk_used x n some = is_used ps x _ (walk_mine x n some)

  pub free_first : 0 < unused.len → IsFree ps unused.first
  free_first some = subst (IsFree ps) (sym (S.frees.head some)) (S.frees.inside 0 some)

  -- if a place is free, every chain and every writer's list has fewer elements than there are places
  pub chain_short : (x : Cell) → 0 < unused.len → (chain x).len < length ps
  chain_short x some =
      let f = free_first some in
      len-lt (InChain ps x) (next_at ps) _ _ (length ps) (S.chains x).thread (λ p m. m.within) unused.first f.within (λ m. free_chain ps unused.first x f m)

  pub owned_short : (t : Txn) → 0 < unused.len → (own t).len < length ps
  owned_short t some =
      let f = free_first some in
      len-lt (IsOwned ps t) (sibling_at ps) _ _ (length ps) (S.owners t) (λ p m. m.within) unused.first f.within (λ m. free_owned ps unused.first t f m)

  -- if a place is in a chain, the free list has fewer elements than there are places
  pub free_short : (x : Cell) (p : ℕ) → InChain ps x p → unused.len < length ps
  free_short x p m = len-lt (IsFree ps) (sibling_at ps) _ _ (length ps) S.frees (λ q f. f.within) p m.within (λ f. free_chain ps p x f m)

  -- the first place of a writer's list, and its neighbours in its chain
  pub owned_first : (t : Txn) → 0 < (own t).len → IsOwned ps t (own t).first
  owned_first t some = subst (IsOwned ps t) (sym ((S.owners t).head some)) ((S.owners t).inside 0 some)

  pub previous_within : (x : Cell) (p : ℕ) → InChain ps x p → previous_at ps p < length ps
  previous_within x p m = let n = mine_previous _ _ _ _ _ (S.chains x) p m in n.within

  pub next_within : (x : Cell) (p : ℕ) → InChain ps x p → next_at ps p < length ps
  next_within x p m = let n = mine_next _ _ _ _ _ (S.chains x) p m in n.within

  pub chain_some : (x : Cell) (p : ℕ) → InChain ps x p → 0 < (chain x).len
  chain_some x p m = let at = (S.chains x).thread.complete p m in omega (arith, at.1.0)

  -- a chain whose places were read can be walked
  pub walkable : (last : Cell → ℕ) → HasLasts ps chain last → (qs : List Place) → qs ≡ ps → (x : Cell) (c : Chain) → c.head ≡ chain x → c.last ≡ last x → IsWalkable qs c
  walkable last ends qs same x c head_is last_is = subst (λ (rs : List Place). IsWalkable rs c) (sym same) (record {
    last = λ some. last_is ∙ (ends x (subst (λ (g : Head). 0 < g.len) head_is some) ∙ ap (λ (g : Head). previous_at ps g.first) (sym head_is));
    used = λ n some. subst (λ (g : Head). IsSome (slot_at ps (steps (previous_at ps) n g.first)).version) (sym head_is) (walk_used x n (subst (λ (g : Head). 0 < g.len) head_is some));
  })

  -- the places of a writer's list
  pub owned_steps : (qs : List Place) → qs ≡ ps → (t : Txn) (h : Head) → h ≡ own t → (n : ℕ) → n < h.len → steps (sibling_at qs) n h.first < length qs
  owned_steps qs same t h is n lt =
      let low : n < (own t).len = subst (λ (g : Head). n < g.len) is lt in
      let m = (S.owners t).inside n low in
      let here : steps (sibling_at ps) n (own t).first < length ps = subst (λ p. p < length ps) (sym (thread-steps _ _ _ _ (S.owners t) n low)) m.within in
      subst (λ (rs : List Place). steps (sibling_at rs) n h.first < length rs) (sym same) (subst (λ (g : Head). steps (sibling_at ps) n g.first < length ps) (sym is) here)
