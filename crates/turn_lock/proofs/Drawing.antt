-- Drawing a ticket keeps the rule.
use Rattle.std.proofs.Common.{◌≡◌, ℕ, suc, ◌+◌, ◌%◌, ◌^◌, ◌<◌, false, true≢false, List, ◌∷◌, set, get_or, sym, refl, ap, ◌∙◌, subst, arith, Option, None}
use Rattle.atomic_table.specs.Table.{State, keeps, stepped, Allows}
use Rattle.turn_lock.specs.declared.view.View.{View}
use Rattle.turn_lock.specs.Counts.{IsOnceWithin}
use Rattle.turn_lock.specs.Views.{drawn}
use Rattle.turn_lock.specs.Rule.{has_ticket, has_owner, turns_of, Knows, Stands, Holds}
use Rattle.turn_lock.specs.Steps.{Sat, Draws}
use Rattle.turn_lock.proofs.Counts.{total_set, total_at, once_up}
use Rattle.turn_lock.proofs.Lists.{all_set}
use Rattle.turn_lock.proofs.Places.{no_ticket, place_stays}

module _ {T E B : Type 0} (entries : T → List E) (owner : E → ℕ) (note : T → ℕ → ℕ) (base_of : T → B) (base : B) (owners count : ℕ) where
  stepped_next : (s : State (Option T) (View E B)) (id : ℕ) (c : List (ℕ × Option T)) (w : View E B) (h : Holds entries owner note base_of base owners count s) → h.next < 35184372088832
      → Stands entries owner note base_of base owners (h.next + 1) h.serving h.notes s.homes (set s.views id w) → Holds entries owner note base_of base owners count
      (stepped s 0 ((get_or s.words 0 0 + 1) % 2 ^ 64) id c w keeps)
  stepped_next s id c w h small new = record {
    next = h.next + 1;
    serving = h.serving;
    notes = h.notes;
    words = ap (λ (ws : List ℕ). set ws 0 ((get_or ws 0 0 + 1) % 2 ^ 64)) h.words ∙ ap (λ (n : ℕ). n ∷ h.serving ∷ h.notes) (omega arith);
    counted = h.counted;
    stands = new;
  }

  pub draws : (slots id : ℕ) (m : Sat T E B) → m.0.ticket ≡ None → m.0.inside ≡ false → 0 < m.0.turns → Allows (Holds entries owner note base_of base owners count) slots id m 0 (λ n. (n + 1) % 2 ^ 64)
      (Draws m)
  draws slots id m free out more s k _ at _ =
      let h = k.stands in let v : View E B = m.0 in let w : View E B = drawn k.next v in let vs : List (View E B) = s.views in
      let sums = total_set turns_of vs id v w at in let part = total_at turns_of vs id v at in let all = h.turns in let order = h.in_order in let know = h.each id v at in (
        w,
        keeps,
        tt,
        stepped_next s id m.1 w k (omega arith) record {
          left = h.left;
          of_owners = h.of_owners;
          turns = omega arith;
          in_order = omega arith;
          tickets = λ n. let t = total_set (has_ticket n) vs id v w at in let z = no_ticket n v free in once_up k.serving k.next n _ _ h.in_order (h.tickets n) (omega arith);
          owned = λ o. let t = total_set (has_owner o) vs id v w at in subst (IsOnceWithin 1 (suc owners) o) (omega arith) (h.owned o);
          each = all_set (Knows owner base h.left k.notes k.serving) vs id w
              record {
                live = know.live;
                spent = (λ e. let z = (know.spent e).0 in absurd (omega arith));
                goes = know.goes;
                known = know.known;
                heard = know.heard;
                at_turn = (λ e. absurd (true≢false (sym e ∙ out)));
              } (λ j u _ e. h.each j u e);
          place = place_stays entries owner note base_of base h.left k.notes k.notes s.homes vs id v w at refl (λ _. refl) h.place;
        },
        ap (λ (n : ℕ). (drawn n v, m.1)) (sym (ap (λ (ws : List ℕ). get_or ws 0 0) k.words)),
      )
