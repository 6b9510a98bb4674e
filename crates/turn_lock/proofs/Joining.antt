-- Joining a seat into another keeps the rule.
use Rattle.std.proofs.Common.{◌≡◌, ◌≢◌, ℕ, suc, ◌+◌, false, true≢false, List, [], ◌∷◌, ◌++◌, set, sym, refl, ◌∙◌, subst, arith, None, All}
use mathlib.Core.Option.{some}
use lib.ListN.{get_elem?}
use Rattle.std.proofs.lemmas.List.Elements.{All-append}
use Rattle.atomic_table.specs.Table.{Joins}
use Rattle.atomic_table.proofs.Lists.{set_else}
use Rattle.turn_lock.specs.declared.view.View.{View}
use Rattle.turn_lock.specs.declared.view.Heard.{Heard}
use Rattle.turn_lock.specs.Counts.{total, IsOnceWithin}
use Rattle.turn_lock.specs.Views.{spent_view, heard_of, both_views}
use Rattle.turn_lock.specs.Rule.{has_ticket, has_owner, turns_of, IsHeard, Knows, Stands, Holds}
use Rattle.turn_lock.proofs.Counts.{total_set, times_append}
use Rattle.turn_lock.proofs.Lists.{All_map, All_none, All_cons, nil_left, all_set}
use Rattle.turn_lock.proofs.Prefixes.{IsWithin, goes_both}
use Rattle.turn_lock.proofs.Words.{merged_known, merged_long}
use Rattle.turn_lock.proofs.Places.{no_ticket, place_stays}

module _ {E B : Type 0} (owner : E → ℕ) (base : B) (left : List E) (notes : List ℕ) where
  more_heard : (a b : List ℕ) (hs : List (Heard E B)) → IsWithin a b → All (IsHeard owner base left notes a) hs → All (IsHeard owner base left notes b) hs
  more_heard a b hs f = All_map (IsHeard owner base left notes a) (IsHeard owner base left notes b) hs
      (λ h p. record { has_base = p.has_base; goes = p.goes; known = p.known; among = λ o. let x = p.among o in let y = f o in omega arith })

  -- what a live view knows holds of what is heard from it
  hears : (serving : ℕ) (v : View E B) (owners : List ℕ) → v.owners ≢ [] → IsWithin v.owners owners → Knows owner base left notes serving v → IsHeard owner base left notes owners (heard_of v)
  hears serving v owners alive f k = record { has_base = (k.live alive).0; goes = k.goes; known = k.known; among = f }

  spent_knows : (serving : ℕ) → Knows owner base left notes serving (spent_view {E = E} {B = B})
  spent_knows serving = record {
    live = λ n. absurd (n refl);
    spent = λ _. (refl, refl);
    goes = record { more = left; is = refl; others = λ _ _ _. refl };
    known = λ i h. absurd (omega arith);
    heard = All_none (IsHeard owner base left notes []);
    at_turn = λ t. absurd (true≢false (sym t));
  }

  both_know : (serving : ℕ) (v w : View E B) → v.inside ≡ false → v.owners ≢ [] → w.owners ≢ [] → Knows owner base left notes serving v → Knows owner base left notes serving w
      → Knows owner base left notes serving (both_views v w)
  both_know serving v w out alive alive' mine theirs = record {
    live = λ _. let x = mine.live alive in let y = theirs.live alive' in (x.0, merged_long v.notes w.notes (x.1 ∙ sym y.1) ∙ y.1);
    spent = λ e. absurd (alive (nil_left v.owners w.owners e));
    goes = goes_both owner v.seen w.seen left v.owners w.owners mine.goes theirs.goes;
    known = merged_known v.notes w.notes notes mine.known theirs.known;
    heard = All_cons P (heard_of w) (heard_of v ∷ (v.heard ++ w.heard)) (hears serving w all alive' grown' theirs)
        (All_cons P (heard_of v) (v.heard ++ w.heard) (hears serving v all alive grown mine)
        (All-append P v.heard w.heard (more_heard v.owners all v.heard grown mine.heard) (more_heard w.owners all w.heard grown' theirs.heard)));
    at_turn = λ t. absurd (true≢false (sym t ∙ out));
  }
    where
      all : List ℕ
      all = v.owners ++ w.owners

      P : Heard E B → Type 0
      P = IsHeard owner base left notes all

      grown : IsWithin v.owners all
      grown o = let z = times_append o v.owners w.owners in omega arith

      grown' : IsWithin w.owners all
      grown' o = let z = times_append o v.owners w.owners in omega arith

module _ {T E B : Type 0} (entries : T → List E) (owner : E → ℕ) (note : T → ℕ → ℕ) (base_of : T → B) (base : B) (owners count : ℕ) where
  pub joins : (id : ℕ) (v : View E B) (other : ℕ) (w : View E B) → v.ticket ≡ None → v.inside ≡ false → w.ticket ≡ None → w.inside ≡ false → v.owners ≢ [] → w.owners ≢ []
      → Joins (Holds entries owner note base_of base owners count) id v other w (both_views v w) spent_view
  joins id v other w free out free' out' alive alive' s k at apart_ there = record { next = k.next; serving = k.serving; notes = k.notes; words = k.words; counted = k.counted; stands = new }
    where
      h : Stands entries owner note base_of base owners k.next k.serving k.notes s.homes s.views
      h = k.stands

      vs : List (View E B)
      vs = s.views

      b : View E B
      b = both_views v w

      us : List (View E B)
      us = set vs id b

      P : View E B → Type 0
      P = Knows owner base h.left k.notes k.serving

      was : get_elem? vs other ≡ some w
      was = sym (set_else vs id other b apart_) ∙ there

      sums : (f : View E B → ℕ) → f b ≡ f v + f w → f (spent_view {E = E} {B = B}) ≡ 0 → total f (set us other (spent_view {E = E} {B = B})) ≡ total f vs
      sums f e z = let x = total_set f vs id v b at in let y = total_set f us other w spent_view there in omega arith

      new : Stands entries owner note base_of base owners k.next k.serving k.notes s.homes (set us other spent_view)
      new = record {
        left = h.left;
        of_owners = h.of_owners;
        turns = let z = sums turns_of refl refl in let all = h.turns in omega arith;
        in_order = h.in_order;
        tickets = λ x. subst (IsOnceWithin k.serving k.next x) (sym (sums (has_ticket x) (let p = no_ticket x v free in let q = no_ticket x w free' in omega arith) refl)) (h.tickets x);
        owned = λ x. subst (IsOnceWithin 1 (suc owners) x) (sym (sums (has_owner x) (times_append x v.owners w.owners) refl)) (h.owned x);
        each = all_set P us other spent_view (spent_knows owner base h.left k.notes k.serving)
            (λ j u _ e. all_set P vs id b (both_know owner base h.left k.notes k.serving v w out alive alive' (h.each id v at) (h.each other w was)) (λ j u _ e. h.each j u e) j u e);
        place = place_stays entries owner note base_of base h.left k.notes k.notes s.homes us other w spent_view there (sym out') (λ _. refl)
            (place_stays entries owner note base_of base h.left k.notes k.notes s.homes vs id v b at refl (λ _. refl) h.place);
      }
