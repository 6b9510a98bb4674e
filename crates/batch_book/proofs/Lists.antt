-- Lists of transactions: filters, maps and counts.
use Rattle.std.proofs.Common.{◌≡◌, ℕ, ◌+◌, Bool, true, false, cond, ◌&&◌, List, [], ◌∷◌, ◌++◌, length, filter, map, refl, sym, ◌∙◌, ap, inl, inr, count_by, length-append}
use Rattle.std.proofs.lemmas.List.Elements.{filter-append}
use Rattle.std.proofs.lemmas.List.Sums.{length-filter}
use Rattle.teb_rules.specs.Serializes.{In}

-- two tests that agree on the elements of a list filter it alike
pub filter_in : (p q : ℕ → Bool) (us : List ℕ) → ((u : ℕ) → In u us → p u ≡ q u) → filter p us ≡ filter q us
filter_in p q [] f = refl
filter_in p q (v ∷ vs) f = λ i. cond (f v (inl refl) i) (v ∷ filter_in p q vs (λ u j. f u (inr j)) i) (filter_in p q vs (λ u j. f u (inr j)) i)

pub map_in : {B : Type 0} (f g : ℕ → B) (us : List ℕ) → ((u : ℕ) → In u us → f u ≡ g u) → map f us ≡ map g us
map_in f g [] h = refl
map_in f g (v ∷ vs) h = λ i. h v (inl refl) i ∷ map_in f g vs (λ u j. h u (inr j)) i

pub count_in : (p q : ℕ → Bool) (us : List ℕ) → ((u : ℕ) → In u us → p u ≡ q u) → count_by p us ≡ count_by q us
count_in p q us f = sym (length-filter p us) ∙ ap (length {A = ℕ}) (filter_in p q us f) ∙ length-filter q us

pub count-append : (p : ℕ → Bool) (us vs : List ℕ) → count_by p (us ++ vs) ≡ count_by p us + count_by p vs
count-append p us vs =
    sym (length-filter p (us ++ vs)) ∙ ap (length {A = ℕ}) (filter-append p us vs) ∙ length-append (filter p us) (filter p vs)
    ∙ (λ i. length-filter p us i + length-filter p vs i)

pub count_zero : (p : ℕ → Bool) (us : List ℕ) → ((u : ℕ) → In u us → p u ≡ false) → count_by p us ≡ 0
count_zero p us f = count_in p (λ u. false) us f ∙ sym (length-filter (λ u. false) us) ∙ none us
  where
    none : (us : List ℕ) → length (filter (λ u. false) us) ≡ 0
    none [] = refl
    none (v ∷ vs) = none vs

pub map-map : {A B C : Type 0} (f : A → B) (g : B → C) (us : List A) → map g (map f us) ≡ map (λ u. g (f u)) us
map-map f g [] = refl
map-map f g (v ∷ vs) = λ i. g (f v) ∷ map-map f g vs i

pub filter-map : {A B : Type 0} (f : A → B) (g : B → Bool) (us : List A) → filter g (map f us) ≡ map f (filter (λ u. g (f u)) us)
filter-map f g [] = refl
filter-map f g (v ∷ vs) = go (g (f v)) (filter-map f g vs)
  where
    go : (b : Bool) → filter g (map f vs) ≡ map f (filter (λ u. g (f u)) vs) → cond b (f v ∷ filter g (map f vs)) (filter g (map f vs)) ≡ map f
        (cond b (v ∷ filter (λ u. g (f u)) vs) (filter (λ u. g (f u)) vs))
    go true h = ap (λ (xs : List _). f v ∷ xs) h
    go false h = h

pub filter-filter : {A : Type 0} (p q : A → Bool) (us : List A) → filter q (filter p us) ≡ filter (λ u. p u && q u) us
filter-filter p q [] = refl
filter-filter p q (v ∷ vs) = go (p v) (filter-filter p q vs)
  where
    go : (b : Bool) → filter q (filter p vs) ≡ filter (λ u. p u && q u) vs → filter q (cond b (v ∷ filter p vs) (filter p vs)) ≡ cond (b && q v) (v ∷ filter (λ u. p u && q u) vs)
        (filter (λ u. p u && q u) vs)
    go true h = λ i. cond (q v) (v ∷ h i) (h i)
    go false h = h
