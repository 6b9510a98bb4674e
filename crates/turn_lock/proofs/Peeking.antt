-- Reading a note keeps the rule.
use Rattle.std.proofs.Common.{◌≡◌, ◌≢◌, ℕ, suc, ◌+◌, ◌-◌, ◌<◌, ◌≤◌, List, [], length, get_or, sym, refl, ap, ◌∙◌, subst, arith}
use mathlib.Core.Option.{none}
use Rattle.atomic_table.specs.Table.{step, keeps, Allows}
use Rattle.turn_lock.specs.declared.view.View.{View}
use Rattle.turn_lock.specs.Counts.{IsOnceWithin}
use Rattle.turn_lock.specs.Views.{looked_at}
use Rattle.turn_lock.specs.Rule.{has_ticket, has_owner, turns_of, Knows, Stands, Holds}
use Rattle.turn_lock.specs.Steps.{Sat, Peeks}
use Rattle.turn_lock.proofs.Counts.{total_set}
use Rattle.turn_lock.proofs.Lists.{all_set}
use Rattle.turn_lock.proofs.Words.{noted_long, noted_same, noted_known, noted_at}
use Rattle.turn_lock.proofs.Places.{place_stays, stepped_load}

module _ {T E B : Type 0} (entries : T → List E) (owner : E → ℕ) (note : T → ℕ → ℕ) (base_of : T → B) (base : B) (owners count : ℕ) where
  pub peeks : (slots id : ℕ) (m : Sat T E B) (k : ℕ) → 2 ≤ k → k < count + 2 → m.0.owners ≢ [] → Allows (Holds entries owner note base_of base owners count) slots id m k (λ n. n)
      (Peeks (step slots k 0 0 none) m)
  peeks slots id m k low high alive s q _ at _ = (
    w,
    keeps,
    tt,
    stepped_load entries owner note base_of base owners count s id k m.1 w q new,
    record { view = refl; known = λ some_. is ∙ know.known i some_; told = noted_at i r v.notes short (λ some_. is ∙ know.known i some_) },
  )
    where
      h : Stands entries owner note base_of base owners q.next q.serving q.notes s.homes s.views
      h = q.stands

      i : ℕ
      i = k - 2

      v : View E B
      v = m.0

      r : ℕ
      r = get_or s.words k 0

      w : View E B
      w = looked_at i r v

      vs : List (View E B)
      vs = s.views

      ns : List ℕ
      ns = q.notes

      is : r ≡ get_or ns i 0
      is = ap (λ (z : List ℕ × ℕ). get_or z.0 z.1 0) (λ j. (q.words j, two j))
        where
          two : k ≡ suc (suc (k - 2))
          two = omega arith

      know : Knows owner base h.left ns q.serving v
      know = h.each id v at

      short : i < length v.notes
      short = let long = (know.live alive).1 in let c = q.counted in omega arith

      new : Stands entries owner note base_of base owners q.next q.serving ns s.homes (Rattle.std.proofs.Common.set vs id w)
      new = record {
        left = h.left;
        of_owners = h.of_owners;
        turns = let sums = total_set turns_of vs id v w at in let all = h.turns in omega arith;
        in_order = h.in_order;
        tickets = λ x. let sums = total_set (has_ticket x) vs id v w at in subst (IsOnceWithin q.serving q.next x) (omega arith) (h.tickets x);
        owned = λ o. let sums = total_set (has_owner o) vs id v w at in subst (IsOnceWithin 1 (suc owners) o) (omega arith) (h.owned o);
        each = all_set (Knows owner base h.left ns q.serving) vs id w
            record {
              live = λ x. ((know.live x).0, noted_long i r v.notes ∙ (know.live x).1);
              spent = know.spent;
              goes = know.goes;
              known = noted_known i r v.notes ns short is know.known;
              heard = know.heard;
              at_turn = λ t. let a = know.at_turn t in (a.0, a.1, noted_same i r v.notes (is ∙ ap (λ (l : List ℕ). get_or l i 0) (sym a.2)) ∙ a.2);
            }
            (λ j u _ e. h.each j u e);
        place = place_stays entries owner note base_of base h.left ns ns s.homes vs id v w at refl (λ _. refl) h.place;
      }
