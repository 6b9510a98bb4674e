-- The first names of a list, with their numbers.
use Rattle.std.proofs.Common.{◌≡◌, ℕ, zero, suc, ◌<◌, true, inl, inr, List, [], ◌∷◌, Ok, Some, get_or, length, set, refl, sym, ap, ◌∙◌, arith}
use Rattle.std.specs.Borrow.{Bor}
use Rattle.std.proofs.lemmas.Bool.{cases_eq}
use Rattle.std.proofs.lemmas.List.{get_or-map, get_or-set_same, get_or-set_other, length-map, map-set}
use Rattle.teb_rules.specs.names.Names.{is_name, number_of}
use Rattle.script_text.specs.AtHand.{AreNumbered}
use Rattle.script_text.specs.Grammar.{name_at}
use Rattle.script_text.specs.Words.{nows}

module _ (names : List (List ℕ)) where
  abbrev nothing : List (List ℕ)
  nothing = [] ∷ [] ∷ [] ∷ [] ∷ []

  all_empty : (i : ℕ) → length (get_or nothing i []) ≡ 0
  all_empty zero = refl
  all_empty (suc zero) = refl
  all_empty (suc (suc zero)) = refl
  all_empty (suc (suc (suc zero))) = refl
  all_empty (suc (suc (suc (suc i)))) = refl

  pub none_numbered : AreNumbered names nothing
  unfolding AreNumbered
  none_numbered i some = absurd (omega (arith, some, all_empty i))

  pub numbered_more : (xs : List (Bor (List ℕ))) (n : ℕ) (w : Bor (List ℕ)) → n < length xs → AreNumbered names (nows xs) → is_name w.now ≡ true → number_of names w.now ≡ Some n
      → AreNumbered names (nows (set xs n w))
  unfolding AreNumbered
  numbered_more xs n w h known name number i some = elim (cases_eq i n) [ inl same ↦ at_it same | inr other ↦ beside other ]
    where
      moved : get_or (nows (set xs n w)) i [] ≡ get_or (set (nows xs) n w.now) i []
      moved = ap (λ (ws : List (List ℕ)). get_or ws i []) (map-set (λ (x : Bor (List ℕ)). x.now) xs n w)

      at_it : i ≡ n → (is_name (get_or (nows (set xs n w)) i []) ≡ true) × (number_of names (get_or (nows (set xs n w)) i []) ≡ Some i)
      at_it same =
          let here : get_or (nows (set xs n w)) i [] ≡ w.now = moved ∙ ap (λ k. get_or (set (nows xs) n w.now) k []) same
          ∙ get_or-set_same (nows xs) n w.now [] (omega (arith, h, length-map xs (λ (x : Bor (List ℕ)). x.now))) in
          rw (here) (name, number ∙ ap Some (sym same))

      beside : (i ≡ n → ⊥) → (is_name (get_or (nows (set xs n w)) i []) ≡ true) × (number_of names (get_or (nows (set xs n w)) i []) ≡ Some i)
      beside other =
          let there : get_or (nows (set xs n w)) i [] ≡ get_or (nows xs) i [] = moved ∙ get_or-set_other (nows xs) n i w.now [] other in
          rw (there) (known i (omega (arith, some, ap length there)))

  -- a word that is one of the names
  pub found : (xs : List (Bor (List ℕ))) (i : ℕ) (d : Bor (List ℕ)) (w : List ℕ) → i < length xs → AreNumbered names (nows xs) → 0 < length w → (get_or xs i d).now ≡ w → Ok i ≡ name_at names w
  unfolding AreNumbered name_at
  found xs i d w h known some same =
      let here : get_or (nows xs) i [] ≡ w = get_or-map (λ x. x.now) xs i d [] h ∙ same in
      let told = known i (omega (arith, some, ap length here)) in
      rw (sym here, told.0, told.1) refl
