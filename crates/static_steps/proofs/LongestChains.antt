-- The longest chains, by table and by link.
use Rattle.std.proofs.Common.{◌≡◌, ℕ, zero, suc, ◌+◌, ◌<◌, ◌≤◌, Bool, true, false, cond, not, ◌&&◌, ◌++◌, max, List, [], ◌∷◌, length, get_or, filter, map, refl, ◌∙◌, ap, arith, add-one}
use Rattle.std.proofs.lemmas.List.Elements.{filter-append, filter_agree}
use Rattle.std.proofs.lemmas.List.{map-append}
use Rattle.std.proofs.lemmas.Grind.{common_steps}
use Rattle.std.specs.Ordering.{nat_cmp, ord_max}
use Rattle.teb_rules.specs.Tree.{below}
use Rattle.teb_rules.specs.Steps.{greatest, reaches, ahead, longest}
use Rattle.static_steps.specs.Squares.{leads_in, is_ahead, ahead_in, longest_in}

greatest-append : (xs ys : List ℕ) → greatest (xs ++ ys) ≡ max (greatest xs) (greatest ys)
greatest-append [] ys = omega arith
greatest-append (x ∷ xs) ys = let r = greatest-append xs ys in omega arith

-- one more table, which is ahead
pub longest_takes : (p : ℕ → Bool) (f : ℕ → ℕ) (n : ℕ) → p n ≡ true → greatest (map f (filter p (below (n + 1)))) ≡ max (greatest (map f (filter p (below n)))) (f n)
unfolding below
longest_takes p f n e =
    let own : greatest (map f (filter p (n ∷ []))) ≡ f n = rw e (omega arith) in
    rw add-one (ap greatest (ap (map f) (filter-append p (below n) (n ∷ [])) ∙ map-append f (filter p (below n)) (filter p (n ∷ [])))
    ∙ greatest-append (map f (filter p (below n))) (map f (filter p (n ∷ []))) ∙ ap (max (greatest (map f (filter p (below n))))) own)

-- one more table, which is not ahead
pub longest_keeps : (p : ℕ → Bool) (f : ℕ → ℕ) (n : ℕ) → p n ≡ false → greatest (map f (filter p (below (n + 1)))) ≡ greatest (map f (filter p (below n)))
unfolding below
longest_keeps p f n e =
    let own : greatest (map f (filter p (n ∷ []))) ≡ 0 = rw e refl in
    rw add-one (ap greatest (ap (map f) (filter-append p (below n) (n ∷ [])) ∙ map-append f (filter p (below n)) (filter p (n ∷ [])))
    ∙ greatest-append (map f (filter p (below n))) (map f (filter p (n ∷ []))) ∙ ap (max (greatest (map f (filter p (below n))))) own ∙ max_none _)
  where
    max_none : (x : ℕ) → max x 0 ≡ x
    max_none x = omega arith

greatest_below : (f : ℕ → ℕ) (xs : List ℕ) (d : ℕ) → ((x : ℕ) → f x ≤ d) → greatest (map f xs) ≤ d
greatest_below f [] d h = omega arith
greatest_below f (x ∷ xs) d h = let r = greatest_below f xs d h in let q = h x in omega arith

-- the longest chain of at most d links has at most d links
pub longest_in-le : (rows : List ℕ) (d b : ℕ) → longest_in rows d b ≤ d
unfolding longest_in
longest_in-le rows zero b = omega arith
longest_in-le rows (suc d) b = greatest_below (λ a. suc (longest_in rows d a)) (ahead_in rows b) (suc d) (λ a. let r = longest_in-le rows d a in omega arith)

map_below : (p : ℕ → Bool) (f g : ℕ → ℕ) (n : ℕ) → ((a : ℕ) → a < n → f a ≡ g a) → map f (filter p (below n)) ≡ map g (filter p (below n))
unfolding below
map_below p f g zero h = refl
map_below p f g (suc n) h =
    let front = map_below p f g n (λ a lt. h a (omega arith)) in
    rw (filter-append p (below n) (n ∷ []), map-append f (filter p (below n)) (filter p (n ∷ [])), map-append g (filter p (below n)) (filter p (n ∷ [])), front)
    (ap (λ (l : List ℕ). map g (filter p (below n)) ++ l) (own (p n)))
  where
    own : (b : Bool) → map f (cond b (n ∷ []) []) ≡ map g (cond b (n ∷ []) [])
    own true = ap (λ (z : ℕ). z ∷ []) (h n (omega arith))
    own false = refl

-- chains with one more link
pub longest_more : (rows chains : List ℕ) (d b : ℕ) → ((a : ℕ) → a < length rows → get_or chains a 0 ≡ longest_in rows d a)
    → greatest (map (λ a. suc (get_or chains a 0)) (ahead_in rows b)) ≡ longest_in rows (d + 1) b
unfolding longest_in ahead_in
longest_more rows chains d b h = rw add-one (ap greatest (map_below (is_ahead rows b) (λ a. suc (get_or chains a 0)) (λ a. suc (longest_in rows d a)) (length rows) (λ a lt. ap suc (h a lt))))

map_same : (f g : ℕ → ℕ) → ((x : ℕ) → f x ≡ g x) → (xs : List ℕ) → map f xs ≡ map g xs
map_same f g h [] = refl
map_same f g h (x ∷ xs) = rw (h x, map_same f g h xs) refl

same_ahead : (ps : List (List (List ℕ))) (rows : List ℕ) (m : ℕ) → length rows ≡ m → ((a b : ℕ) → leads_in rows a b ≡ reaches ps m a b) → (b : ℕ) → ahead_in rows b ≡ ahead ps m b
unfolding ahead_in ahead
same_ahead ps rows m e h b = rw e (filter_agree (is_ahead rows b) (λ a. reaches ps m a b && not (reaches ps m b a)) (λ a. rw (h a b, h b a) refl) (below m))

-- if the rows are the relation `reaches`, the chains in the rows are chains of tables
pub longest_in-is : (ps : List (List (List ℕ))) (rows : List ℕ) (m : ℕ) → length rows ≡ m → ((a b : ℕ) → leads_in rows a b ≡ reaches ps m a b) → (d b : ℕ) → longest_in rows d b ≡ longest ps m d b
unfolding longest_in longest
longest_in-is ps rows m e h zero b = refl
longest_in-is ps rows m e h (suc d) b =
    rw (same_ahead ps rows m e h b) (ap greatest (map_same (λ a. suc (longest_in rows d a)) (λ a. suc (longest ps m d a)) (λ a. ap suc (longest_in-is ps rows m e h d a)) (ahead ps m b)))

-- the maximum of two numbers, as the code computes it
pub nat_max : (x y : ℕ) → ord_max nat_cmp x y ≡ max x y
nat_max x y = grind (arith, common_steps)
