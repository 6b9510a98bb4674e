-- Incrementing `serving` and giving the slot back keeps the rule: what the seat added is added for all.
use Rattle.std.proofs.Common.{◌≡◌, ◌≢◌, ℕ, suc, ◌+◌, ◌%◌, ◌^◌, ◌<◌, ◌≤◌, true, false, true≢false, List, [], ◌∷◌, ◌++◌}
use Rattle.std.proofs.Common.{set, get_or, sym, refl, ap, ◌∙◌, subst, ⊎_elim, inl, arith, Option, Some, None, All}
use mathlib.Core.Option.{some, none}
use lib.ListN.{get_elem?}
use Rattle.std.proofs.lemmas.List.Elements.{All-append}
use Rattle.atomic_table.specs.Table.{State, gives, rest, stepped, homes_after, Allows}
use Rattle.turn_lock.specs.declared.view.View.{View}
use Rattle.turn_lock.specs.Counts.{times, Has, IsOnceWithin}
use Rattle.turn_lock.specs.Views.{departed}
use Rattle.turn_lock.specs.Rule.{has_ticket, has_owner, turns_of, GoesOn, IsHeard, Knows, IsHome, IsAway, Stands, Holds}
use Rattle.turn_lock.specs.Calls.{Adds}
use Rattle.turn_lock.specs.Steps.{Sat, Moves}
use Rattle.turn_lock.proofs.Counts.{total_set, total_at, total_two, same_yes, once_on, once_most, once_low, once_high}
use Rattle.turn_lock.proofs.Lists.{All_map, All_none, all_set, Some_is}
use Rattle.turn_lock.proofs.Prefixes.{goes_none, goes_on}
use Rattle.turn_lock.proofs.Places.{Homes, the_ticket, alone}

-- the value that was last taken from the slot
abbrev held_or : {T : Type 0} → T → List (ℕ × Option T) → T
held_or x [] = x
held_or x ((k, Some y) ∷ r) = y
held_or x ((k, None) ∷ r) = x

same_held : {T : Type 0} (x y : T) (c : List (ℕ × Option T)) → c ≡ (0, Some x) ∷ [] → c ≡ (0, Some y) ∷ [] → x ≡ y
same_held x y c a b = ap (held_or x) (sym a ∙ b)

module _ {T E B : Type 0} (entries : T → List E) (owner : E → ℕ) (note : T → ℕ → ℕ) (base_of : T → B) (base : B) (owners count : ℕ) where
  stepped_serving : (s : State (Option T) (View E B)) (id : ℕ) (c : List (ℕ × Option T)) (w : View E B) (h : Holds entries owner note base_of base owners count s) → h.serving < 35184372088832
      → Stands entries owner note base_of base owners h.next (h.serving + 1) h.notes (homes_after s.homes c gives) (set s.views id w) → Holds entries owner note base_of base owners count
      (stepped s 1 ((get_or s.words 1 0 + 1) % 2 ^ 64) id c w gives)
  stepped_serving s id c w h small new = record {
    next = h.next;
    serving = h.serving + 1;
    notes = h.notes;
    words = ap (λ (ws : List ℕ). set ws 1 ((get_or ws 1 0 + 1) % 2 ^ 64)) h.words ∙ ap (λ (n : ℕ). h.next ∷ n ∷ h.notes) (omega arith);
    counted = h.counted;
    stands = new;
  }

  -- what was heard stays true when seats of other owners add entries
  heard_on : (left more : List E) (ns theirs mine : List ℕ) (y : Rattle.turn_lock.specs.declared.view.Heard.Heard E B) → ((o : ℕ) → times o theirs + times o mine ≤ 1)
      → All (λ e. Has mine (owner e)) more
      → IsHeard owner base left ns theirs y → IsHeard owner base (left ++ more) ns theirs y
  heard_on left more ns theirs mine y apart own q = record {
    has_base = q.has_base;
    goes = goes_on owner y.seen left more y.owners mine (λ o. let a = apart o in let b = q.among o in omega arith) own
        q.goes;
    known = q.known;
    among = q.among;
  }

  pub moves : (slots id : ℕ) (m : Sat T E B) (x : T) → m.1 ≡ (0, Some x) ∷ [] → m.0.inside ≡ true → m.0.owners ≢ [] → Adds entries owner note base_of m.0 x
      → Allows (Holds entries owner note base_of base owners count) slots id m 1 (λ n. (n + 1) % 2 ^ 64) (λ _ n. Moves entries m n)
  moves slots id m x carries inside alive adds s k _ at _ = (
    w,
    gives,
    tt,
    stepped_serving s id m.1 w k (let b = below in let all = h.turns in omega arith) new,
    λ y is. ap (λ (z : List E × List (ℕ × Option T)). (departed z.0 v, z.1)) (λ i. (ap entries (same_held x y m.1 carries is) i, ap rest carries i)),
  )
    where
      h : Stands entries owner note base_of base owners k.next k.serving k.notes s.homes s.views
      h = k.stands

      v : View E B
      v = m.0

      w : View E B
      w = departed (entries x) v

      vs : List (View E B)
      vs = s.views

      know : Knows owner base h.left k.notes k.serving v
      know = h.each id v at

      mine : v.ticket ≡ Some k.serving
      mine = (know.at_turn inside).0

      longer : entries x ≡ h.left ++ adds.more
      longer = adds.is ∙ ap (λ l. l ++ adds.more) (know.at_turn inside).1

      below : k.serving < k.next
      below = let t = total_at (has_ticket k.serving) vs id v at in let a = the_ticket k.serving k.serving v mine in let b = same_yes k.serving k.serving refl in
          once_high k.serving k.next k.serving _ (h.tickets k.serving) (omega arith)

      out : (j : ℕ) (u : View E B) → j ≢ id → get_elem? vs j ≡ some u → u.inside ≡ false
      out j u other e = alone entries owner note base_of base owners k.next k.serving k.notes s.homes vs h id j v u at e other mine

      own_apart : (j : ℕ) (u : View E B) → j ≢ id → get_elem? vs j ≡ some u → (o : ℕ) → times o u.owners + times o v.owners ≤ 1
      own_apart j u other e o = let two = total_two (has_owner o) vs j id u v other e at in let one = once_most 1 (suc owners) o _ (h.owned o) in omega arith

      own_within : (o : ℕ) → Has v.owners o → (1 ≤ o) × (o ≤ owners)
      own_within o some_ = let t = total_at (has_owner o) vs id v at in let low = once_low 1 (suc owners) o _ (h.owned o) (omega arith) in
          let high = once_high 1 (suc owners) o _ (h.owned o) (omega arith) in (low, omega arith)

      away : s.homes ≡ none ∷ []
      away = ⊎_elim (λ (a : IsHome entries owner note base_of base h.left k.notes s.homes vs). absurd (true≢false (sym inside ∙ a.nobody id v at)))
          (λ (a : IsAway entries owner note base_of s.homes vs). a.away) h.place

      new : Stands entries owner note base_of base owners k.next (k.serving + 1) k.notes (homes_after s.homes m.1 gives) (set vs id w)
      new = record {
        left = entries x;
        of_owners = let P : E → Type 0 = λ e. (1 ≤ owner e) × (owner e ≤ owners) in
            subst (All P) (sym longer) (All-append P h.left adds.more h.of_owners (All_map (λ e. Has v.owners (owner e)) P adds.more (λ e l. own_within (owner e) l) adds.mine));
        turns = let sums = total_set turns_of vs id v w at in let all = h.turns in omega arith;
        in_order = let b = below in omega arith;
        tickets = λ n. let sums = total_set (has_ticket n) vs id v w at in let a = the_ticket n k.serving v mine in once_on k.serving k.next n _ _ below (h.tickets n) (omega arith);
        owned = λ o. let sums = total_set (has_owner o) vs id v w at in subst (IsOnceWithin 1 (suc owners) o) (omega arith) (h.owned o);
        each = all_set (Knows owner base (entries x) k.notes (k.serving + 1)) vs id w
            record {
              live = know.live;
              spent = (λ e. ((know.spent e).0, refl));
              goes = goes_none owner (entries x) v.owners;
              known = know.known;
              heard = All_none (IsHeard owner base (entries x) k.notes v.owners);
              at_turn = (λ e. absurd (true≢false (sym e)));
            }
            (λ j u other e. let theirs = h.each j u e in record {
              live = theirs.live;
              spent = theirs.spent;
              goes = subst (λ l. GoesOn owner u.seen l u.owners) (sym longer) (goes_on owner u.seen h.left adds.more u.owners v.owners (own_apart j u other e) adds.mine theirs.goes);
              known = theirs.known;
              heard = subst (λ l. All (IsHeard owner base l k.notes u.owners) u.heard) (sym longer)
                  (All_map (IsHeard owner base h.left k.notes u.owners) (IsHeard owner base (h.left ++ adds.more) k.notes u.owners) u.heard
                  (λ y q. heard_on h.left adds.more k.notes u.owners v.owners y (own_apart j u other e) adds.mine q) theirs.heard);
              at_turn = λ t. absurd (true≢false (sym t ∙ out j u other e));
            });
        place = inl record {
          value = x;
          home = ap (λ (z : Homes T × List (ℕ × Option T)). homes_after z.0 z.1 gives) (λ i. (away i, carries i));
          has_left = refl;
          has_base = Some_is (sym adds.has_base ∙ (know.live alive).0);
          has_notes = λ i. adds.has_notes i ∙ ap (λ (l : List ℕ). get_or l i 0) (know.at_turn inside).2;
          nobody = all_set (λ u. u.inside ≡ false) vs id w refl out;
        };
      }
