-- A list that was taken out of the entries: its first place, and the effect of freeing that place.
use Rattle.std.proofs.Common.{◌≡◌, ◌==◌, ◌+◌, ◌-◌, ◌<◌, ℕ, List, length, refl, sym, subst, if◌then◌else◌, None, Some}
use Rattle.std.specs.Option.{option_map}
use Rattle.teb_rules.specs.declared.names.Cell.{Cell}
use Rattle.teb_rules.specs.declared.names.Txn.{Txn}
use Rattle.teb_rules.specs.names.Cells.{same_cell}
use Rattle.chain_pool.specs.declared.places.Version.{Version as Stored}
use Rattle.chain_pool.specs.declared.places.Place.{Place}
use Rattle.chain_pool.specs.declared.places.Head.{Head}
use Rattle.chain_pool.specs.declared.places.Content.{Content}
use Rattle.chain_pool.specs.declared.places.Content.TheVariants.{Free, Deleted, Value}
use Rattle.chain_pool.specs.Places.{version_of, place_at, slot_at, next_at, previous_at, sibling_at, InChain, IsOwned}
use Rattle.chain_pool.specs.Heads.{with_head, without_place}
use Rattle.chain_pool.specs.Linked.{Linked}
use Rattle.chain_pool.proofs.Freeing.{IsFreed, freeing}
use Rattle.chain_pool.proofs.Lookups.{with_head-here, with_head-twice}
use Rattle.chain_pool.proofs.Sizes.{owned_first, previous_within, next_within, chain_some, free_short}

-- if the version at a place has a writer, it also has the cell
cell_kept : (cell : Cell) (writer t : Txn) (c : Content) → option_map (λ (v : Stored). v.writer) (version_of cell writer c) ≡ Some t
    → option_map (λ (v : Stored). v.cell) (version_of cell writer c) ≡ Some cell
cell_kept cell writer t Free is = let z : None ≡ Some t = is in cc
cell_kept cell writer t Deleted is = refl
cell_kept cell writer t (Value value) is = refl

module _ (ps : List Place) (chain : Cell → Head) (own : Txn → Head) (unused : Head) (t : Txn) (h : Head) (S : Linked ps chain (with_head t h own) unused) (some : 0 < h.len) where
  abbrev with_h : Txn → Head
  with_h = with_head t h own

  here : with_h t ≡ h
  here = with_head-here t h own

  pub first_owned : IsOwned ps t h.first
  first_owned = subst (λ (g : Head). IsOwned ps t g.first) here (owned_first ps chain with_h unused S t (subst (λ (g : Head). 0 < g.len) (sym here) some))

  -- what holds if the places are qs and the first place of the list is `taken`
  abbrev pub UsedAs : List Place → Place → Type 0
  UsedAs qs taken = (taken.previous < length qs) × (taken.next < length qs) × (0 < (chain taken.cell).len) × (unused.len < length qs)

  abbrev pub FreedAs : List Place → Place → Type 0
  FreedAs qs taken = (ps' : List Place) (chain' : Cell → Head) → length ps' ≡ length qs
      → ((r : ℕ) → next_at ps' r ≡ (if r == taken.previous then taken.next else next_at qs r))
      → ((r : ℕ) → previous_at ps' r ≡ (if r == taken.next then taken.previous else previous_at qs r))
      → ((r : ℕ) → slot_at ps' r ≡ (if r == h.first then record { version = None; sibling = unused.first } else slot_at qs r))
      → ((y : Cell) → chain' y ≡ (if same_cell taken.cell y then without_place (chain taken.cell) h.first taken.next else chain y))
      → IsFreed ps ps' chain chain' with_h (with_head t (record { first = taken.sibling; len = h.len - 1 }) own) (record { first = h.first; len = unused.len + 1 }) t taken.cell h.first taken.previous

  mine : InChain ps (place_at ps h.first).cell h.first
  mine =
      let owned = first_owned in
      let p = place_at ps h.first in
      record { within = owned.within; is_mine = cell_kept p.cell p.writer t p.content owned.is_mine }

  used_here : UsedAs ps (place_at ps h.first)
  used_here =
      let cell = (place_at ps h.first).cell in (
        previous_within ps chain with_h unused S cell h.first mine,
        next_within ps chain with_h unused S cell h.first mine,
        chain_some ps chain with_h unused S cell h.first mine,
        free_short ps chain with_h unused S cell h.first mine,
      )

  freed_here : FreedAs ps (place_at ps h.first)
  freed_here ps' chain' len next previous slots chains =
      let m = mine in
      let rest : Head = record { first = sibling_at ps h.first; len = h.len - 1 } in
      freeing ps ps' chain chain' with_h (with_head t rest own) unused S (place_at ps h.first).cell t h (sym here) (subst (λ (g : Head). 0 < g.len) (sym here) some) m.is_mine len next previous slots
      chains (with_head-twice t h rest own)

  module _ (qs : List Place) (same : qs ≡ ps) (taken : Place) (is : taken ≡ place_at ps h.first) where
    pub first_used : UsedAs qs taken
    first_used = subst (λ (l : List Place). UsedAs l taken) (sym same) (subst (UsedAs ps) (sym is) used_here)

    pub first_freed : FreedAs qs taken
    first_freed = subst (λ (l : List Place). FreedAs l taken) (sym same) (subst (FreedAs ps) (sym is) freed_here)
