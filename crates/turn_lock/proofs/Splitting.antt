-- Splitting off a new seat keeps the rule.
use Rattle.std.proofs.Common.{◌≡◌, ◌≢◌, ℕ, suc, ◌+◌, ◌≤◌, false, List, [], ◌∷◌, ◌++◌, set, length, sym, refl, ap, ◌∙◌, subst, ⊎_elim, inl, inr, arith, None}
use Rattle.atomic_table.specs.Table.{Splits}
use Rattle.atomic_table.proofs.Lists.{at_snoc, at_longer}
use Rattle.turn_lock.specs.declared.view.View.{View}
use Rattle.turn_lock.specs.Counts.{total, same, times, Has, without, IsOnceWithin}
use Rattle.turn_lock.specs.Views.{given, remaining}
use Rattle.turn_lock.specs.Rule.{has_ticket, has_owner, turns_of, IsHeard, Knows, IsHome, IsAway, Stands, Holds}
use Rattle.turn_lock.proofs.Counts.{total_set, total_snoc, times_without}
use Rattle.turn_lock.proofs.Lists.{All_none, all_set}
use Rattle.turn_lock.proofs.Prefixes.{goes_fewer}
use Rattle.turn_lock.proofs.Places.{no_ticket, place_stays}

module _ {T E B : Type 0} (entries : T → List E) (owner : E → ℕ) (note : T → ℕ → ℕ) (base_of : T → B) (base : B) (owners count : ℕ) where
  pub splits : (id : ℕ) (v : View E B) (o t : ℕ) → v.ticket ≡ None → v.inside ≡ false → Has v.owners o → without o v.owners ≢ [] → t ≤ v.turns
      → Splits (Holds entries owner note base_of base owners count) id v (remaining o t v) (given o t v)
  splits id v o t free out has rest_ enough s k at = record { next = k.next; serving = k.serving; notes = k.notes; words = k.words; counted = k.counted; stands = new }
    where
      h : Stands entries owner note base_of base owners k.next k.serving k.notes s.homes s.views
      h = k.stands

      vs : List (View E B)
      vs = s.views

      l : View E B
      l = remaining o t v

      r : View E B
      r = given o t v

      us : List (View E B)
      us = set vs id l

      know : Knows owner base h.left k.notes k.serving v
      know = h.each id v at

      sums : (f : View E B → ℕ) → f l + f r ≡ f v → total f (us ++ r ∷ []) ≡ total f vs
      sums f e = let a = total_set f vs id v l at in let b = total_snoc f us r in omega arith

      one : (x : ℕ) → times x (o ∷ []) ≡ same x o
      one x = omega arith

      alive : v.owners ≢ []
      alive e = absurd (let z : times o v.owners ≡ 0 = ap (times o) e in omega arith)

      left_knows : Knows owner base h.left k.notes k.serving l
      left_knows = record {
        live = λ _. know.live alive;
        spent = λ e. absurd (rest_ e);
        goes = goes_fewer owner v.seen h.left l.owners v.owners (λ x. let w = times_without o x v.owners has in omega arith) know.goes;
        known = know.known;
        heard = All_none (IsHeard owner base h.left k.notes l.owners);
        at_turn = know.at_turn;
      }

      right_knows : Knows owner base h.left k.notes k.serving r
      right_knows = record {
        live = λ _. know.live alive;
        spent = λ e. absurd (let z = ap length e in omega arith);
        goes = goes_fewer owner v.seen h.left r.owners v.owners (λ x. let w = times_without o x v.owners has in let y = one x in omega arith) know.goes;
        known = know.known;
        heard = All_none (IsHeard owner base h.left k.notes r.owners);
        at_turn = know.at_turn;
      }

      new : Stands entries owner note base_of base owners k.next k.serving k.notes s.homes (us ++ r ∷ [])
      new = record {
        left = h.left;
        of_owners = h.of_owners;
        turns = let z = sums turns_of (omega arith) in let all = h.turns in omega arith;
        in_order = h.in_order;
        tickets = λ x. subst (IsOnceWithin k.serving k.next x) (sym (sums (has_ticket x) (let a = no_ticket x v free in omega arith))) (h.tickets x);
        owned = λ x. subst (IsOnceWithin 1 (suc owners) x) (sym (sums (has_owner x) (let w = times_without o x v.owners has in let y = one x in omega arith))) (h.owned x);
        each = λ j u e. ⊎_elim (all_set (Knows owner base h.left k.notes k.serving) vs id l left_knows (λ j u _ e. h.each j u e) j u)
            (λ (is : r ≡ u). subst (Knows owner base h.left k.notes k.serving) is right_knows) (at_snoc us r u j e);
        place = ⊎_elim
            (λ (a : IsHome entries owner note base_of base h.left k.notes s.homes us). inl record {
              value = a.value;
              home = a.home;
              has_left = a.has_left;
              has_base = a.has_base;
              has_notes = a.has_notes;
              nobody = λ j u e. ⊎_elim (a.nobody j u) (λ (is : r ≡ u). ap (λ (x : View E B). x.inside) (sym is) ∙ out) (at_snoc us r u j e);
            })
            (λ (a : IsAway entries owner note base_of s.homes us). inr record {
              away = a.away;
              holder = a.holder;
              view = a.view;
              there = at_longer us (r ∷ []) a.holder a.view a.there;
              inside = a.inside;
            })
            (place_stays entries owner note base_of base h.left k.notes k.notes s.homes vs id v l at refl (λ _. refl) h.place);
      }
