-- Where the value is, and which seat has the turn.
use Rattle.std.proofs.Common.{◌≡◌, ◌≢◌, ◌⊎◌, ℕ, Bool, true, false, true≢false, List, set, get_or, sym, refl, ap, ◌∙◌, ⊎_elim, inl, inr, arith, Option, Some, None}
use mathlib.Core.Option as mathlib_option
use mathlib.Core.Option.{some, some-injective}
use mathlib.Core.Logic.{dite}
use native.Mathlib.Decide.{ℕ_discrete}
use lib.ListN.{get_elem?}
use lib.Seq.{set-get_or}
use Rattle.atomic_table.specs.Table.{State, stepped, keeps}
use Rattle.atomic_table.proofs.Lists.{set_else}
use Rattle.turn_lock.specs.declared.view.View.{View}
use Rattle.turn_lock.specs.Counts.{same}
use Rattle.turn_lock.specs.Rule.{is_ticket, has_ticket, IsHome, IsAway, Stands, Holds}
use Rattle.turn_lock.proofs.Counts.{total_two, same_yes, once_most}
use Rattle.turn_lock.proofs.Lists.{all_set, set_same}

module _ {E B : Type 0} where
  pub no_ticket : (k : ℕ) (v : View E B) → v.ticket ≡ None → has_ticket k v ≡ 0
  no_ticket k v e = ap (is_ticket k) e

  pub the_ticket : (k t : ℕ) (v : View E B) → v.ticket ≡ Some t → has_ticket k v ≡ same k t
  the_ticket k t v e = ap (is_ticket k) e

  -- two seats of which one has the turn and the other does not are different
  pub apart : (vs : List (View E B)) (i j : ℕ) (v u : View E B) → get_elem? vs i ≡ some v → get_elem? vs j ≡ some u → v.inside ≡ false → u.inside ≡ true → j ≢ i
  apart vs i j v u a b out in_ is = true≢false (sym in_ ∙ ap (λ (x : View E B). x.inside) (sym (some-injective v u (sym a ∙ ap (get_elem? vs) (sym is) ∙ b))) ∙ out)

abbrev pub Homes : Type 0 → Type 0
Homes T = List (mathlib_option.Option (Option T))

module _ {T E B : Type 0} (entries : T → List E) (owner : E → ℕ) (note : T → ℕ → ℕ) (base_of : T → B) where
  -- if a seat has the ticket that is served, no other seat has the turn
  pub alone : (base : B) (owners next serving : ℕ) (ns : List ℕ) (hs : Homes T) (vs : List (View E B)) (h : Stands entries owner note base_of base owners next serving ns hs vs) (i j : ℕ)
      (v u : View E B)
      → get_elem? vs i ≡ some v → get_elem? vs j ≡ some u → j ≢ i → v.ticket ≡ Some serving → u.inside ≡ false
  alone base owners next serving ns hs vs h i j v u a b other mine = go u.inside refl
    where
      go : (t : Bool) → u.inside ≡ t → u.inside ≡ false
      go false e = e
      go true e = let theirs = ((h.each j u b).at_turn e).0 in let two = total_two (has_ticket serving) vs i j v u (λ s. other (sym s)) a b in
          let x = the_ticket serving serving v mine in let y = the_ticket serving serving u theirs in let z = same_yes serving serving refl in
          let one = once_most serving next serving _ (h.tickets serving) in absurd (omega arith)

  -- a seat's view changes but not whether it has the turn, and the notes change only if it has it
  pub place_stays : (base : B) (left : List E) (ns ms : List ℕ) (hs : Homes T) (vs : List (View E B)) (id : ℕ) (v w : View E B) → get_elem? vs id ≡ some v → w.inside ≡ v.inside
      → (v.inside ≡ false → ms ≡ ns)
      → IsHome entries owner note base_of base left ns hs vs ⊎ IsAway entries owner note base_of hs vs → IsHome entries owner note base_of base left ms hs (set vs id w)
      ⊎ IsAway entries owner note base_of hs (set vs id w)
  place_stays base left ns ms hs vs id v w at stays notes_ p = ⊎_elim
      (λ (a : IsHome entries owner note base_of base left ns hs vs). let out = a.nobody id v at in inl record {
        value = a.value;
        home = a.home;
        has_left = a.has_left;
        has_base = a.has_base;
        has_notes = λ i. a.has_notes i ∙ ap (λ (l : List ℕ). get_or l i 0) (sym (notes_ out));
        nobody = all_set (λ u. u.inside ≡ false) vs id w (stays ∙ out) (λ j u _ e. a.nobody j u e);
      })
      (λ (a : IsAway entries owner note base_of hs vs). inr (dite (ℕ_discrete a.holder id)
      (λ here. record {
        away = a.away;
        holder = id;
        view = w;
        there = set_same vs id v w at;
        inside = stays ∙ (ap (λ (x : View E B). x.inside) (some-injective v a.view (sym at ∙ ap (get_elem? vs) (sym here) ∙ a.there)) ∙ a.inside);
      })
      (λ other. record { away = a.away; holder = a.holder; view = a.view; there = set_else vs id a.holder w other ∙ a.there; inside = a.inside }))) p

  -- a step that leaves its word unchanged, and neither takes nor gives a slot
  pub stepped_load : (base : B) (owners count : ℕ) (s : State (Option T) (View E B)) (id k : ℕ) (c : List (ℕ × Option T)) (w : View E B) (h : Holds entries owner note base_of base owners count s)
      → Stands entries owner note base_of base owners h.next h.serving h.notes s.homes (set s.views id w) → Holds entries owner note base_of base owners count
      (stepped s k (get_or s.words k 0) id c w keeps)
  stepped_load base owners count s id k c w h new = record { next = h.next; serving = h.serving; notes = h.notes; words = set-get_or s.words k 0 ∙ h.words; counted = h.counted; stands = new }
