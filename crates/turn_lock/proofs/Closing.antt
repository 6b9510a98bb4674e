-- The value at the end, when one seat has all owners, and what it says of the seats that were joined into that seat.
use Rattle.std.proofs.Common.{◌≡◌, ◌≢◌, ℕ, suc, ◌+◌, ◌≤◌, ◌<◌, Bool, true, false, true≢false, List, [], ◌∷◌, ◌++◌}
use Rattle.std.proofs.Common.{length, sym, refl, ap, ◌∙◌, subst, ⊎_elim, arith, append_assoc, Option, Some, None, All}
use mathlib.Core.Option.{some, some-injective}
use mathlib.Core.Logic.{dite}
use native.Mathlib.Decide.{ℕ_discrete}
use lib.ListN.{get_elem?}
use Rattle.atomic_table.specs.Table.{State, Final, Seen}
use Rattle.turn_lock.specs.declared.view.View.{View}
use Rattle.turn_lock.specs.declared.view.Heard.{Heard}
use Rattle.turn_lock.specs.declared.turn.Seat.{Seat}
use Rattle.turn_lock.specs.declared.turn.Turn.{Turn}
use Rattle.turn_lock.specs.declared.member.Member.{Ghosts}
use Rattle.turn_lock.specs.Counts.{times, HasAll}
use Rattle.turn_lock.specs.Views.{heard_of, both_views}
use Rattle.turn_lock.specs.Rule.{has_owner, GoesOn, IsHeard, Knows, IsHome, IsAway, Stands, Holds}
use Rattle.turn_lock.specs.Calls.{AreOwned, Follows, FollowsHeard, Ends}
use Rattle.turn_lock.specs.Seats.{view_of, IsOf, IsOutside, all_owners}
use Rattle.turn_lock.proofs.Counts.{total_two, same_yes, times_append, once_low, once_high}
use Rattle.turn_lock.proofs.Lists.{All_map, All_none, All_cons, All_left, All_last, Some_not_None}

module _ {T E B : Type 0} (entries : T → List E) (owner : E → ℕ) (note : T → ℕ → ℕ) (base_of : T → B) (base : B) (owners count : ℕ) where
  -- the slot holds the last value
  pub record IsLast (v : View E B) (xs : List (Option T)) : Type 0 where
    pub value : T
    pub there : get_elem? xs 0 ≡ some (Some value)
    pub ends : Ends entries owner note base_of v value
    pub has_base : base_of value ≡ base
    pub owned : AreOwned owner owners (entries value)

  pub ends : (id : ℕ) (v : View E B) (ws : List ℕ) (xs : List (Option T)) → v.inside ≡ false → v.owners ≢ [] → HasAll owners v.owners
      → Final (Seen (Holds entries owner note base_of base owners count) id v) ws xs → IsLast v xs
  ends id v ws xs out alive all f = ⊎_elim at_home (λ (a : IsAway entries owner note base_of s.homes s.views). absurd (true≢false (sym a.inside ∙ nobody a.holder a.view a.there))) h.place
    where
      s : State (Option T) (View E B)
      s = f.0

      k : Holds entries owner note base_of base owners count s
      k = f.1.0

      at : get_elem? s.views id ≡ some v
      at = f.1.1

      h : Stands entries owner note base_of base owners k.next k.serving k.notes s.homes s.views
      h = k.stands

      know : Knows owner base h.left k.notes k.serving v
      know = h.each id v at

      -- no other seat has an owner
      unowned : (j : ℕ) (u : View E B) → get_elem? s.views j ≡ some u → j ≢ id → (os : List ℕ) → u.owners ≡ os → u.owners ≡ []
      unowned j u e n [] is = is
      unowned j u e n (o ∷ os) is = let two = total_two (has_owner o) s.views j id u v n e at in let one = same_yes o o refl in let has : times o u.owners ≡ times o (o ∷ os) = ap (times o) is in
          let low = once_low 1 (suc owners) o _ (h.owned o) (omega arith) in let high = once_high 1 (suc owners) o _ (h.owned o) (omega arith) in let mine = all o low (omega arith) in
          let t = (h.owned o).0 low high in absurd (omega arith)

      is_out : (u : View E B) → u.ticket ≡ None → (u.inside ≡ true → u.ticket ≡ Some k.serving) → (t : Bool) → u.inside ≡ t → u.inside ≡ false
      is_out u none_ p false e = e
      is_out u none_ p true e = absurd (Some_not_None (sym (p e) ∙ none_))

      nobody : (j : ℕ) (u : View E B) → get_elem? s.views j ≡ some u → u.inside ≡ false
      nobody j u e = dite (ℕ_discrete j id)
          (λ here. ap (λ (x : View E B). x.inside) (some-injective u v (sym e ∙ ap (get_elem? s.views) here ∙ at)) ∙ out)
          (λ other. is_out u ((h.each j u e).spent (unowned j u e other u.owners refl)).1 (λ t. ((h.each j u e).at_turn t).0) u.inside refl)

      at_home : IsHome entries owner note base_of base h.left k.notes s.homes s.views → IsLast v xs
      at_home a = record {
        value = a.value;
        there = f.4 0 (Some a.value) (ap (λ hs. get_elem? hs 0) a.home);
        ends = record {
          follows = record {
            has_base = (know.live alive).0 ∙ ap Some (sym a.has_base);
            goes = subst (λ l. GoesOn owner v.seen l v.owners) (sym a.has_left) know.goes;
            known = λ i some_. a.has_notes i
                ∙ know.known i some_;
          };
          heard = All_map (IsHeard owner base h.left k.notes v.owners) (λ y. FollowsHeard entries owner note base_of y a.value) v.heard
              (λ y p. record {
                has_base = p.has_base ∙ ap Some (sym a.has_base);
                goes = subst (λ l. GoesOn owner y.seen l y.owners) (sym a.has_left) p.goes;
                known = λ i some_. a.has_notes i
                    ∙ p.known i some_;
              }) know.heard;
        };
        has_base = a.has_base;
        owned = subst (AreOwned owner owners) (sym a.has_left) h.of_owners;
      }

module _ {T E B : Type 0} where
  pub all_owners_snoc : (o : ℕ) (ss : List (Seat T E B)) (s : Seat T E B) → times o (all_owners (ss ++ s ∷ [])) ≡ times o (all_owners ss) + times o s.seat.me.0.owners
  all_owners_snoc o [] s = let h = times_append o s.seat.me.0.owners [] in omega arith
  all_owners_snoc o (x ∷ xs) s = let h = all_owners_snoc o xs s in let p = times_append o x.seat.me.0.owners (all_owners (xs ++ s ∷ [])) in let q = times_append o x.seat.me.0.owners (all_owners xs) in
      omega arith

module _ {T E B : Type 0} (g : Ghosts T E B) (t : Turn T E B) where
  abbrev S : Type 0
  S = Seat T E B

  abbrev pub IsReady : S → Type 0
  IsReady s = IsOf t s × IsOutside s

  abbrev pub Tells : T → S → Type 0
  Tells x s = Follows g.entries g.owner g.note g.base (view_of s) x

  abbrev pub EndsWith : S → T → Type 0
  EndsWith s x = Ends g.entries g.owner g.note g.base (view_of s) x

  -- the seats that are left: one of them has the joined ones, and the value at its end tells of each
  pub record Joined (n : ℕ) (whole items : List S) (first : S) : Type 0 where
    pub ready : All IsReady items
    pub first_ready : IsReady first
    pub all : (o : ℕ) → 1 ≤ o → o ≤ n → 0 < times o (view_of first).owners + times o (all_owners items)
    pub popped : List S
    pub is : whole ≡ items ++ popped
    pub tells : (x : T) → EndsWith first x → All (Tells x) popped

  pub begins : (n : ℕ) (whole front : List S) (first : S) → whole ≡ front ++ first ∷ [] → All IsReady whole → HasAll n (all_owners whole) → Joined n whole front first
  begins n whole front first e ready has = record {
    ready = All_left IsReady front (first ∷ []) (subst (All IsReady) e ready);
    first_ready = All_last IsReady front first (subst (All IsReady) e ready);
    all = λ o a b. let h = has o a b in let s : times o (all_owners whole) ≡ times o (all_owners (front ++ first ∷ [])) = ap (λ l. times o (all_owners l)) e in let z = all_owners_snoc o front first in
        omega arith;
    popped = first ∷ [];
    is = e;
    tells = λ x end. All_cons (Tells x) first [] end.follows (All_none (Tells x));
  }

  heard_follows : (x : T) (s : S) → FollowsHeard g.entries g.owner g.note g.base (heard_of (view_of s)) x → Tells x s
  heard_follows x s h = record { has_base = h.has_base; goes = h.goes; known = h.known }

  pub goes_on : (n : ℕ) (whole items front : List S) (first other new : S) → items ≡ front ++ other ∷ [] → IsReady new → view_of new ≡ both_views (view_of first) (view_of other)
      → Joined n whole items first → Joined n whole front new
  goes_on n whole items front first other new e ready is inv = record {
    ready = All_left IsReady front (other ∷ []) (subst (All IsReady) e inv.ready);
    first_ready = ready;
    all = λ o a b. let h = inv.all o a b in let s : times o (all_owners items) ≡ times o (all_owners (front ++ other ∷ [])) = ap (λ l. times o (all_owners l)) e in
        let z = all_owners_snoc o front other in
        let w : times o (view_of new).owners ≡ times o ((view_of first).owners ++ (view_of other).owners) = ap (λ (v : View E B). times o v.owners) is in
        let y = times_append o (view_of first).owners (view_of other).owners in omega arith;
    popped = other ∷ inv.popped;
    is = inv.is ∙ (ap (λ l. l ++ inv.popped) e ∙ append_assoc front (other ∷ []) inv.popped);
    tells = λ x end. let k : Ends g.entries g.owner g.note g.base (both_views (view_of first) (view_of other)) x = subst (λ v. Ends g.entries g.owner g.note g.base v x) is end in
        let P : Heard E B → Type 0 = λ h. FollowsHeard g.entries g.owner g.note g.base h x in
        All_cons (Tells x) other inv.popped (heard_follows x other (k.heard 0 (heard_of (view_of other)) (omega arith)))
        (inv.tells x record {
          follows = heard_follows x first (k.heard 1 (heard_of (view_of other)) (omega arith));
          heard = All_left P (view_of first).heard (view_of other).heard (λ i d l. k.heard (suc (suc i)) d (omega arith));
        });
  }

  pub finishes : (n : ℕ) (whole items : List S) (first : S) (x : T) → length items ≡ 0 → EndsWith first x → Joined n whole items first → All (Tells x) whole
  finishes n whole [] first x none end inv = subst (All (Tells x)) (sym inv.is) (inv.tells x end)
  finishes n whole (s ∷ ss) first x none end inv = absurd (omega arith)
