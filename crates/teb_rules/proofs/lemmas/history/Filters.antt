-- Lists that are filtered twice, or extended by one value.
use Rattle.std.proofs.Common.{◌≡◌, Bool, true, false, cond, ◌&&◌, List, [], ◌∷◌, ◌++◌, filter, refl, sym, ◌∙◌, ap}
use Rattle.std.proofs.lemmas.List.Elements.{filter-append}

module _ {A : Type 0} where
  -- two filters in sequence are one filter by both tests
  pub filter_both : (p r q : A → Bool) → ((x : A) → q x ≡ (r x && p x)) → (xs : List A) → filter q xs ≡ filter r (filter p xs)
  filter_both p r q same [] = refl
  filter_both p r q same (x ∷ xs) = ap (λ (b : Bool). cond b (x ∷ filter q xs) (filter q xs)) (same x) ∙ go (r x) refl (p x) (filter_both p r q same xs)
    where
      go : (b : Bool) → r x ≡ b → (c : Bool) → filter q xs ≡ filter r (filter p xs) → cond (b && c) (x ∷ filter q xs) (filter q xs) ≡ filter r (cond c (x ∷ filter p xs) (filter p xs))
      go true e true ih = ap (λ (ys : List A). x ∷ ys) ih ∙ sym (ap (λ (o : Bool). cond o (x ∷ filter r (filter p xs)) (filter r (filter p xs))) e)
      go true e false ih = ih
      go false e true ih = ih ∙ sym (ap (λ (o : Bool). cond o (x ∷ filter r (filter p xs)) (filter r (filter p xs))) e)
      go false e false ih = ih

  -- filtering a list that has one more value, which passes
  pub filter_push : (p : A → Bool) (xs : List A) (a : A) → p a ≡ true → filter p (xs ++ a ∷ []) ≡ filter p xs ++ a ∷ []
  filter_push p xs a h = filter-append p xs (a ∷ []) ∙ ap (λ (b : Bool). filter p xs ++ cond b (a ∷ []) []) h
