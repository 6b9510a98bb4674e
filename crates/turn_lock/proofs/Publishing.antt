-- Publishing a note keeps the rule.
use Rattle.std.proofs.Common.{◌≡◌, ◌≢◌, ℕ, suc, ◌+◌, ◌-◌, ◌<◌, ◌≤◌, true, true≢false, List, [], set, length, get_or, sym, refl, ap, ◌∙◌, subst, arith, Option, Some, All, length-set, get_or-set_same}
use mathlib.Core.Option.{none}
use Rattle.atomic_table.specs.Table.{State, step, keeps, stepped, Allows}
use Rattle.turn_lock.specs.declared.view.View.{View}
use Rattle.turn_lock.specs.Counts.{IsOnceWithin}
use Rattle.turn_lock.specs.Views.{published}
use Rattle.turn_lock.specs.Rule.{has_ticket, has_owner, turns_of, IsHeard, Knows, Stands, Holds}
use Rattle.turn_lock.specs.Steps.{Sat, Publishes}
use Rattle.turn_lock.proofs.Counts.{total_set}
use Rattle.turn_lock.proofs.Lists.{All_map, all_set}
use Rattle.turn_lock.proofs.Words.{set_known}
use Rattle.turn_lock.proofs.Places.{alone, place_stays}

module _ {T E B : Type 0} (entries : T → List E) (owner : E → ℕ) (note : T → ℕ → ℕ) (base_of : T → B) (base : B) (owners count : ℕ) where
  stepped_note : (s : State (Option T) (View E B)) (id : ℕ) (c : List (ℕ × Option T)) (w : View E B) (h : Holds entries owner note base_of base owners count s) (i k n : ℕ) → k ≡ suc (suc i)
      → Stands entries owner note base_of base owners h.next h.serving (set h.notes i n) s.homes (set s.views id w) → Holds entries owner note base_of base owners count (stepped s k n id c w keeps)
  stepped_note s id c w h i k n at new = record {
    next = h.next;
    serving = h.serving;
    notes = set h.notes i n;
    words = ap (λ (z : List ℕ × ℕ). set z.0 z.1 n) (λ j. (h.words j, at j));
    counted = length-set h.notes i n ∙ h.counted;
    stands = new;
  }

  pub publishes : (slots id : ℕ) (m : Sat T E B) (k n : ℕ) → 2 ≤ k → k < count + 2 → m.0.inside ≡ true → m.0.owners ≢ [] → get_or m.0.notes (k - 2) 0 ≡ 0
      → Allows (Holds entries owner note base_of base owners count) slots id m k (λ _. n) (λ _. Publishes (step slots k n 0 none) m)
  publishes slots id m k n low high inside alive fresh s q _ at _ = (w, keeps, tt, stepped_note s id m.1 w q i k n (omega arith) new, (refl, get_or-set_same v.notes i n 0 short))
    where
      h : Stands entries owner note base_of base owners q.next q.serving q.notes s.homes s.views
      h = q.stands

      i : ℕ
      i = k - 2

      v : View E B
      v = m.0

      w : View E B
      w = published i n v

      vs : List (View E B)
      vs = s.views

      ns : List ℕ
      ns = q.notes

      know : Knows owner base h.left ns q.serving v
      know = h.each id v at

      mine : v.ticket ≡ Some q.serving
      mine = (know.at_turn inside).0

      short : i < length v.notes
      short = let long = (know.live alive).1 in let c = q.counted in omega arith

      was : get_or ns i 0 ≡ 0
      was = ap (λ (l : List ℕ). get_or l i 0) (sym (know.at_turn inside).2) ∙ fresh

      here : set v.notes i n ≡ set ns i n
      here = ap (λ (l : List ℕ). set l i n) (know.at_turn inside).2

      heard : (u : View E B) → All (IsHeard owner base h.left ns u.owners) u.heard → All (IsHeard owner base h.left (set ns i n) u.owners) u.heard
      heard u = All_map (IsHeard owner base h.left ns u.owners) (IsHeard owner base h.left (set ns i n) u.owners) u.heard
          (λ y p. record { has_base = p.has_base; goes = p.goes; known = set_known i n y.notes ns was p.known; among = p.among })

      new : Stands entries owner note base_of base owners q.next q.serving (set ns i n) s.homes (set vs id w)
      new = record {
        left = h.left;
        of_owners = h.of_owners;
        turns = let sums = total_set turns_of vs id v w at in let all = h.turns in omega arith;
        in_order = h.in_order;
        tickets = λ x. let sums = total_set (has_ticket x) vs id v w at in subst (IsOnceWithin q.serving q.next x) (omega arith) (h.tickets x);
        owned = λ o. let sums = total_set (has_owner o) vs id v w at in subst (IsOnceWithin 1 (suc owners) o) (omega arith) (h.owned o);
        each = all_set (Knows owner base h.left (set ns i n) q.serving) vs id w
            record {
              live = (λ x. ((know.live x).0, ap length here));
              spent = know.spent;
              goes = know.goes;
              known = (λ j _. ap (λ (l : List ℕ). get_or l j 0) (sym here));
              heard = heard v know.heard;
              at_turn = (λ _. (mine, (know.at_turn inside).1, here));
            }
            (λ j u other e. let theirs = h.each j u e in record {
              live = λ x. ((theirs.live x).0, (theirs.live x).1 ∙ sym (length-set ns i n));
              spent = theirs.spent;
              goes = theirs.goes;
              known = set_known i n u.notes ns was theirs.known;
              heard = heard u theirs.heard;
              at_turn = λ t. absurd (true≢false (sym t ∙ alone entries owner note base_of base owners q.next q.serving ns s.homes vs h id j v u at e other mine));
            });
        place = place_stays entries owner note base_of base h.left ns (set ns i n) s.homes vs id v w at refl (λ out. absurd (true≢false (sym inside ∙ out))) h.place;
      }
