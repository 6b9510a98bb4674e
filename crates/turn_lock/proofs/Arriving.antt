-- Reading `serving`, and taking the slot if it is the seat's ticket, keeps the rule.
use Rattle.std.proofs.Common.{◌≡◌, ◌≢◌, ℕ, suc, false, true≢false, List, [], set, get_or, sym, refl, ap, ◌∙◌, subst, ⊎_elim, inr, arith, Option, Some, None}
use mathlib.Core.Option.{none}
use mathlib.Core.Logic.{dite}
use native.Mathlib.Decide.{ℕ_discrete}
use lib.ListN.{get_elem?}
use Rattle.atomic_table.specs.Table.{State, Act, keeps, takes, Valid, stepped, homes_after, carried_after, Allows}
use Rattle.atomic_table.proofs.Lists.{set_again}
use Rattle.turn_lock.specs.declared.view.View.{View}
use Rattle.turn_lock.specs.Counts.{IsOnceWithin}
use Rattle.turn_lock.specs.Views.{arrived}
use Rattle.turn_lock.specs.Rule.{has_ticket, has_owner, turns_of, GoesOn, IsHeard, Knows, IsHome, IsAway, Stands, Holds}
use Rattle.turn_lock.specs.Steps.{Sat, Looks}
use Rattle.turn_lock.proofs.Counts.{total_set}
use Rattle.turn_lock.proofs.Lists.{All_none, all_set, set_same}
use Rattle.turn_lock.proofs.Prefixes.{goes_none}
use Rattle.turn_lock.proofs.Places.{Homes, apart, alone, stepped_load}

abbrev or_zero : Option ℕ → ℕ
or_zero (Some n) = n
or_zero None = 0

module _ {T E B : Type 0} (entries : T → List E) (owner : E → ℕ) (note : T → ℕ → ℕ) (base_of : T → B) (base : B) (owners count : ℕ) where
  stepped_taking : (s : State (Option T) (View E B)) (id : ℕ) (c : List (ℕ × Option T)) (w : View E B) (a : Act (Option T)) (h : Holds entries owner note base_of base owners count s)
      → Stands entries owner note base_of base owners h.next h.serving h.notes (homes_after s.homes c a) (set s.views id w) → Holds entries owner note base_of base owners count
      (stepped s 1 (get_or s.words 1 0) id c w a)
  stepped_taking s id c w a h new = record { next = h.next; serving = h.serving; notes = h.notes; words = ap (λ (ws : List ℕ). set ws 1 (get_or ws 1 0)) h.words; counted = h.counted; stands = new }

  pub looks : (slots id : ℕ) (m : Sat T E B) (t : ℕ) → m.0.ticket ≡ Some t → m.0.inside ≡ false → m.0.owners ≢ [] → Allows (Holds entries owner note base_of base owners count) slots id m 1 (λ n. n)
      (Looks entries owner note base_of m)
  looks slots id m t has out alive s k _ at _ = dite (ℕ_discrete t k.serving) served waits
    where
      h : Stands entries owner note base_of base owners k.next k.serving k.notes s.homes s.views
      h = k.stands

      v : View E B
      v = m.0

      vs : List (View E B)
      vs = s.views

      now : get_or s.words 1 0 ≡ k.serving
      now = ap (λ (ws : List ℕ). get_or ws 1 0) k.words

      Goal : Type 0
      Goal = (w : View E B) × (a : Act (Option T)) × Valid s.homes m.1 a × Holds entries owner note base_of base owners count (stepped s 1 (get_or s.words 1 0) id m.1 w a)
          × Looks entries owner note base_of m (get_or s.words 1 0) (w, carried_after m.1 a)

      waits : t ≢ k.serving → Goal
      waits not = (
        v,
        keeps,
        tt,
        stepped_load entries owner note base_of base owners count s id 1 m.1 v k
            (subst (Stands entries owner note base_of base owners k.next k.serving k.notes s.homes) (sym (set_again vs id v at)) h),
        ((λ e. absurd (not (ap or_zero (sym has ∙ e) ∙ now))), λ _. refl),
      )

      arrives : t ≡ k.serving → IsHome entries owner note base_of base h.left k.notes s.homes vs → Goal
      arrives here a = let x : T = a.value in let w : View E B = arrived (entries x) k.notes v in let know = h.each id v at in let mine : v.ticket ≡ Some k.serving = has ∙ ap Some here in (
        w,
        takes 0 (Some x),
        ap (λ (hs : Homes T). get_elem? hs 0) a.home,
        stepped_taking s id m.1 w (takes 0 (Some x)) k record {
          left = h.left;
          of_owners = h.of_owners;
          turns = let sums = total_set turns_of vs id v w at in let all = h.turns in omega arith;
          in_order = h.in_order;
          tickets = λ n. let sums = total_set (has_ticket n) vs id v w at in subst (IsOnceWithin k.serving k.next n) (omega arith) (h.tickets n);
          owned = λ o. let sums = total_set (has_owner o) vs id v w at in subst (IsOnceWithin 1 (suc owners) o) (omega arith) (h.owned o);
          each = all_set (Knows owner base h.left k.notes k.serving) vs id w record {
            live = λ n. ((know.live n).0, refl);
            spent = know.spent;
            goes = subst (λ l. GoesOn owner (entries x) l v.owners) a.has_left (goes_none owner (entries x) v.owners);
            known = λ _ _. refl;
            heard = All_none (IsHeard owner base h.left k.notes v.owners);
            at_turn = λ _. (mine, a.has_left, refl);
          } (λ j u _ e. h.each j u e);
          place = inr record { away = ap (λ (hs : Homes T). set hs 0 none) a.home; holder = id; view = w; there = set_same vs id v w at; inside = refl };
        },
        (
          (λ _. record {
            value = x;
            notes = k.notes;
            follows = record {
              has_base = (know.live alive).0 ∙ ap Some (sym a.has_base);
              goes = subst (λ l. GoesOn owner v.seen l v.owners) (sym a.has_left) know.goes;
              known = λ i some_. a.has_notes i ∙ know.known i some_;
            };
            has_notes = a.has_notes;
            is = refl;
          }),
          λ n. absurd (n (has ∙ ap Some (here ∙ sym now))),
        ),
      )

      served : t ≡ k.serving → Goal
      served here = ⊎_elim (arrives here) (λ (a : IsAway entries owner note base_of s.homes vs). absurd (true≢false (sym a.inside
          ∙ alone entries owner note base_of base owners k.next k.serving k.notes s.homes vs h id a.holder v a.view at a.there (apart vs id a.holder v a.view at a.there out a.inside)
          (has ∙ ap Some here)))) h.place
