-- The rank of a table never falls along a profile.
use Rattle.std.proofs.Common.{◌≡◌, ℕ, zero, suc, ◌<◌, ◌≤◌, true, false, not, ◌&&◌, ◌||◌, eqb, List, [], ◌∷◌, Some, refl}
use Rattle.std.proofs.Common.{sym, ap, subst, inl, inr, arith, length, get_or, map, filter, le_refl, eq-eqb, eqb-true}
use Rattle.std.proofs.lemmas.Bool.{both_ways, cases_eq, false_from_ne_true, and_parts, and_from, or_cases, or_left, or_right, not-true, not_from_false, leb-true}
use Rattle.std.specs.List.{list_any}
use Rattle.teb_rules.specs.Accepted.{HasProfiles}
use Rattle.teb_rules.specs.Serializes.{In}
use Rattle.teb_rules.specs.declared.names.Spot.{Spot}
use Rattle.teb_rules.specs.laws.TreeFacts.{TreeFacts}
use Rattle.teb_rules.specs.Tree.{leaf, path}
use Rattle.teb_rules.specs.Steps.{stands_under}
use Rattle.teb_rules.specs.Setup.{Setup, above, above_steps, above_profiles, ranked_tables, among, profile}
use Rattle.teb_rules.specs.Steps.{least_step, leads, arrow, reaches, greatest, ahead, longest, table_rank, profiles_under, rank_of_table, rank_of_step}
use Rattle.teb_rules.specs.Tree.{below, on_path}
use Rattle.teb_rules.proofs.lemmas.laws.Lists.{In-append_left, In-append_right, In-append_cases, list_any_from}
use Rattle.teb_rules.proofs.lemmas.laws.Serial.{In-filter, filter-In}
use Rattle.teb_rules.proofs.lemmas.laws.ReadRule.{find_some}
use Rattle.teb_rules.proofs.lemmas.laws.Pigeons.{In-map_from}

pub reaches_through : (ps : List (List (List ℕ))) (m a b c : ℕ) → c < m → reaches ps m a c ≡ true → reaches ps m c b ≡ true → reaches ps m a b ≡ true
unfolding reaches
reaches_through ps zero a b c h p q = absurd (omega arith)
reaches_through ps (suc m) a b c h p q = elim (cases_eq c m) [
  | inl e ↦ or_right (reaches ps m a b) _
      (and_from _ _ (into (subst (λ (z : ℕ). (reaches ps m a z || (reaches ps m a m && reaches ps m m z)) ≡ true) e p))
      (out (subst (λ (z : ℕ). (reaches ps m z b || (reaches ps m z m && reaches ps m m b)) ≡ true) e q)))
  | inr ne ↦ (let l : c < m = omega arith in elim (or_cases _ _ p) [
    | inl p1 ↦ elim (or_cases _ _ q) [
      | inl q1 ↦ or_left _ _ (reaches_through ps m a b c l p1 q1)
      | inr q2 ↦ (let r = and_parts _ _ q2 in or_right (reaches ps m a b) _ (and_from _ _ (reaches_through ps m a m c l p1 r.0) r.1))
    ]
    | inr p2 ↦ (let s = and_parts _ _ p2 in elim (or_cases _ _ q) [
      | inl q1 ↦ or_right (reaches ps m a b) _ (and_from _ _ s.0 (reaches_through ps m m b c l s.1 q1))
      | inr q2 ↦ (let r = and_parts _ _ q2 in or_right (reaches ps m a b) _ (and_from _ _ s.0 r.1))
    ])
  ])
]
  where
    into : (reaches ps m a m || (reaches ps m a m && reaches ps m m m)) ≡ true → reaches ps m a m ≡ true
    into h = elim (or_cases _ _ h) [ inl r ↦ r | inr r ↦ (and_parts _ _ r).0 ]

    out : (reaches ps m m b || (reaches ps m m m && reaches ps m m b)) ≡ true → reaches ps m m b ≡ true
    out h = elim (or_cases _ _ h) [ inl r ↦ r | inr r ↦ (and_parts _ _ r).1 ]

arrow_reaches : (ps : List (List (List ℕ))) (m a b : ℕ) → arrow ps a b ≡ true → reaches ps m a b ≡ true
unfolding reaches
arrow_reaches ps zero a b h = h
arrow_reaches ps (suc m) a b h = or_left _ _ (arrow_reaches ps m a b h)

greatest-le : (xs : List ℕ) (d : ℕ) → ((x : ℕ) → In x xs → x ≤ d) → greatest xs ≤ d
greatest-le [] d f = omega arith
greatest-le (x ∷ xs) d f = let z = f x (inl refl) in let y = greatest-le xs d (λ u i. f u (inr i)) in omega arith

le-greatest : (xs : List ℕ) (x : ℕ) → In x xs → x ≤ greatest xs
le-greatest [] x i = absurd i
le-greatest (y ∷ ys) x i = elim i [ inl e ↦ omega arith | inr j ↦ (let z = le-greatest ys x j in omega arith) ]

In-map : (f : ℕ → ℕ) (xs : List ℕ) (x : ℕ) → In x xs → In (f x) (map f xs)
In-map f [] x i = absurd i
In-map f (y ∷ ys) x i = elim i [ inl e ↦ inl (ap f e) | inr j ↦ inr (In-map f ys x j) ]

pub below-In : (n x : ℕ) → In x (below n) → x < n
unfolding below
below-In zero x i = absurd i
below-In (suc n) x i = elim (In-append_cases x (below n) (n ∷ []) i) [ inl j ↦ (let z = below-In n x j in omega arith) | inr j ↦ elim j [ inl e ↦ omega arith | inr k ↦ absurd k ] ]

pub In-below : (n x : ℕ) → x < n → In x (below n)
unfolding below
In-below zero x h = absurd (omega arith)
In-below (suc n) x h = elim (cases_eq n x) [ inl e ↦ In-append_right x (below n) (n ∷ []) (inl e) | inr e ↦ In-append_left x (below n) (n ∷ []) (In-below n x (omega arith)) ]

pub In-ahead : (ps : List (List (List ℕ))) (m a b : ℕ) → a < m → reaches ps m a b ≡ true → reaches ps m b a ≡ false → In a (ahead ps m b)
unfolding ahead
In-ahead ps m a b h p q = In-filter _ a (below m) (In-below m a h) (and_from _ _ p (not_from_false _ q))

pub ahead-In : (ps : List (List (List ℕ))) (m a b : ℕ) → In a (ahead ps m b) → (a < m) × (reaches ps m a b ≡ true) × (reaches ps m b a ≡ false)
unfolding ahead
ahead-In ps m a b i =
    let f = filter-In (λ a. reaches ps m a b && not (reaches ps m b a)) a (below m) i in
    let p = and_parts _ _ f.1 in
    (below-In m a f.0, p.0, not-true _ p.1)

-- a table that is reached has no smaller rank
rank_grows : (ps : List (List (List ℕ))) (m d a b : ℕ) → a < m → b < m → reaches ps m a b ≡ true → longest ps m d a ≤ longest ps m d b
unfolding longest
rank_grows ps m zero a b ha hb r = omega arith
rank_grows ps m (suc d) a b ha hb r = greatest-le _ _ (λ x i.
    let z = In-map_from (λ (a : ℕ). suc (longest ps m d a)) _ x i in
    let c = z.0 in
    let f = ahead-In ps m c a z.1 in
    let y = le-greatest _ (suc (longest ps m d c)) (In-map (λ (a : ℕ). suc (longest ps m d a)) _ c (In-ahead ps m c b f.0
    (reaches_through ps m c b a ha f.1 r)
    (false_from_ne_true _ (λ q. absurd (both_ways _ f.2 (reaches_through ps m a c b hb r q)))))) in
    let e = z.2 in omega arith)

leads_from : (ss : List (List ℕ)) (i j a b : ℕ) → i ≤ j → among a (get_or ss i []) ≡ true → among b (get_or ss j []) ≡ true → leads ss a b ≡ true
unfolding leads
leads_from [] i j a b h p q = absurd (cc)
leads_from (s ∷ ss) zero j a b h p q = or_left _ _ (and_from _ _ p (some_step (s ∷ ss) j q))
  where
    some_step : (ss : List (List ℕ)) (j : ℕ) → among b (get_or ss j []) ≡ true → list_any (among b) ss ≡ true
    some_step [] j q = absurd (cc)
    some_step (s ∷ ss) zero q = or_left (among b s) (list_any (among b) ss) q
    some_step (s ∷ ss) (suc j) q = or_right (among b s) (list_any (among b) ss) (some_step ss j q)
leads_from (s ∷ ss) (suc i) zero a b h p q = absurd (omega arith)
leads_from (s ∷ ss) (suc i) (suc j) a b h p q = or_right (among a s && list_any (among b) (s ∷ ss)) _ (leads_from ss i j a b (omega arith) p q)

arrow_from : (S : Setup) (n k a b : ℕ) → k < S.types → stands_under S.tree n k ≡ true → leads (profile S k) a b ≡ true → arrow (profiles_under S n) a b ≡ true
unfolding arrow profiles_under
arrow_from S n k a b h o e = some_profile (filter (stands_under S.tree n) (below S.types)) (In-filter (stands_under S.tree n) k (below S.types) (In-below S.types k h) o)
  where
    some_profile : (ks : List ℕ) → In k ks → list_any (λ steps. leads steps a b) (map (profile S) ks) ≡ true
    some_profile [] i = absurd i
    some_profile (j ∷ js) i = elim i [
      | inl q ↦ or_left (leads (profile S j) a b) _ (subst (λ (z : ℕ). leads (profile S z) a b ≡ true) (sym q) e)
      | inr i' ↦ or_right (leads (profile S j) a b) _ (some_profile js i')
    ]

-- a number in the list is below `above` of the list
above_has : (xs : List ℕ) (a : ℕ) → among a xs ≡ true → a < above xs
above_has [] a h = absurd (cc)
above_has (x ∷ xs) a h = elim (or_cases (eqb x a) (among a xs) h) [ inl e ↦ (let y = eqb-true x a e in omega arith) | inr j ↦ (let z = above_has xs a j in omega arith) ]

step_has : (steps : List (List ℕ)) (i a : ℕ) → among a (get_or steps i []) ≡ true → a < above_steps steps
step_has [] i a h = absurd (cc)
step_has (s ∷ ss) zero a h = let z = above_has s a h in omega arith
step_has (s ∷ ss) (suc i) a h = let z = step_has ss i a h in omega arith

profile_has : (ps : List (List (List ℕ))) (k i a : ℕ) → among a (get_or (get_or ps k []) i []) ≡ true → a < above_profiles ps
profile_has [] k i a h = absurd (cc)
profile_has (p ∷ ps) zero i a h = let z = step_has p i a h in omega arith
profile_has (p ∷ ps) (suc k) i a h = let z = profile_has ps k i a h in omega arith

named : (S : Setup) (k i a : ℕ) → among a (get_or (profile S k) i []) ≡ true → a < ranked_tables S
named S k i a h = profile_has S.profiles k i a h

-- along a profile under n, ranks do not fall
pub along_profile : (S : Setup) → HasProfiles S → (n k i j a b : ℕ) → k < S.types → stands_under S.tree n k ≡ true → i ≤ j → among a (get_or (profile S k) i []) ≡ true
    → among b (get_or (profile S k) j []) ≡ true → rank_of_table S n a ≤ rank_of_table S n b
unfolding rank_of_table table_rank
along_profile S s n k i j a b h o ij p q = rank_grows (profiles_under S n) (ranked_tables S) (ranked_tables S) a b (named S k i a p) (named S k j b q)
    (arrow_reaches (profiles_under S n) (ranked_tables S) a b (arrow_from S n k a b h o (leads_from (profile S k) i j a b ij p q)))

first_among : (xs : List ℕ) → 0 < length xs → among (get_or xs 0 0) xs ≡ true
first_among [] h = absurd (omega arith)
first_among (x ∷ xs) h = or_left (eqb x x) (among x xs) (eq-eqb x x refl)

-- the least step for a table has the table, and is not before the cursor
pub least_is : (ss : List (List ℕ)) (c a s : ℕ) → least_step ss c a ≡ Some s → (c ≤ s) × (s < length ss) × (among a (get_or ss s []) ≡ true)
unfolding least_step
least_is ss c a s e = let r = find_some _ (below (length ss)) s e in let p = and_parts _ _ r.1 in (leb-true _ _ p.0, below-In (length ss) s r.0, p.1)

-- the rank of a step is at most that of each table of this step or a later one
pub rank_of_step-le : (S : Setup) → HasProfiles S → (n k i a s : ℕ) → k < S.types → stands_under S.tree n k ≡ true → i ≤ s → s < length (profile S k) → among a (get_or (profile S k) s []) ≡ true
    → rank_of_step S n k i ≤ rank_of_table S n a
unfolding rank_of_step
rank_of_step-le S p n k i a s h o is l e = along_profile S p n k i s _ a h o is (first_among _ (p.filled k i h (omega arith))) e

-- a type is under the nodes of its paths
pub stands_from : (S : Setup) → TreeFacts S → (n : ℕ) (s : Spot) → s.kind.0 < S.types → on_path S.tree n s ≡ true → stands_under S.tree n s.kind.0 ≡ true
unfolding stands_under on_path path
stands_from S a n s h o = let f = a.housed s h in list_any_from _ (below (length S.tree)) (leaf S.tree s) (In-below (length S.tree) (leaf S.tree s) f.0) (and_from _ _ f.1 o)

-- the rank of a table is at most that of a step that has it
pub rank_at : (S : Setup) → HasProfiles S → (n k c a s : ℕ) → k < S.types → stands_under S.tree n k ≡ true → least_step (profile S k) c a ≡ Some s → rank_of_table S n a ≤ rank_of_step S n k s
unfolding rank_of_step
rank_at S p n k c a s h o e = let r = least_is (profile S k) c a s e in along_profile S p n k s s a _ h o (le_refl s) r.2 (first_among _ (p.filled k s h r.1))
