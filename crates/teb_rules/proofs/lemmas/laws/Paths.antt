-- Paths of an accepted tree: a node determines the way to it.
use Rattle.teb_rules.specs.declared.names.Spot.{Spot}
use Rattle.std.proofs.Common.{◌≡◌, ◌⊎◌, ℕ, zero, suc, ◌<◌, ◌≤◌, Bool, true, false, cond, ◌||◌, eqb, ltb, List, [], ◌∷◌, ◌++◌, Option, Some, None}
use Rattle.std.proofs.Common.{refl, sym, ◌∙◌, ap, inl, inr, arith, flat_map, eqb-true, eq-eqb, ne_eqb, ltb-true, lt-ltb, le-ltb, le_refl}
use Rattle.std.proofs.lemmas.Bool.{or_cases, or_left, or_right, and_parts, cases_eq, cases_lt, both_ways, cases_order, false_from_ne_true}
use Rattle.teb_rules.specs.laws.TreeFacts.{TreeFacts}
use Rattle.teb_rules.specs.Ranks.{lex}
use Rattle.teb_rules.specs.Setup.{Setup, among}
use Rattle.teb_rules.specs.Tree.{row, path, leaf, climb, on_path, next_of, way}

climb-append : (S : Setup) (d n : ℕ) (l m : List ℕ) → climb S.tree d n (l ++ m) ≡ climb S.tree d n l ++ m
unfolding climb
climb-append S zero n l m = refl
climb-append S (suc d) n l m = go (row S.tree n).parent (λ p. climb-append S d p (n ∷ l) m)
  where
    go : (o : Option ℕ) → ((p : ℕ) → climb S.tree d p (n ∷ (l ++ m)) ≡ climb S.tree d p (n ∷ l) ++ m)
        → elim o as (λ z. List ℕ) [ None ↦ n ∷ (l ++ m) | Some p ↦ climb S.tree d p (n ∷ (l ++ m)) ] ≡ elim o as (λ z. List ℕ) [ None ↦ n ∷ l | Some p ↦ climb S.tree d p (n ∷ l) ] ++ m
    go None ih = refl
    go (Some p) ih = ih p

pub climb_fuel : (S : Setup) → TreeFacts S → (d e n : ℕ) (l : List ℕ) → n ≤ d → n ≤ e → climb S.tree d n l ≡ climb S.tree e n l
unfolding climb
climb_fuel S a zero zero n l h k = refl
climb_fuel S a zero (suc e) n l h k = let z : n ≡ 0 = omega arith in go (row S.tree n).parent (ap (λ (i : ℕ). (row S.tree i).parent) z ∙ a.root)
  where
    go : (o : Option ℕ) → o ≡ None → n ∷ l ≡ elim o as (λ z. List ℕ) [ None ↦ n ∷ l | Some p ↦ climb S.tree e p (n ∷ l) ]
    go None q = refl
    go (Some p) q = absurd (cc)
climb_fuel S a (suc d) zero n l h k = let z : n ≡ 0 = omega arith in go (row S.tree n).parent (ap (λ (i : ℕ). (row S.tree i).parent) z ∙ a.root)
  where
    go : (o : Option ℕ) → o ≡ None → elim o as (λ z. List ℕ) [ None ↦ n ∷ l | Some p ↦ climb S.tree d p (n ∷ l) ] ≡ n ∷ l
    go None q = refl
    go (Some p) q = absurd (cc)
climb_fuel S a (suc d) (suc e) n l h k = go (row S.tree n).parent refl (λ p. climb_fuel S a d e p (n ∷ l))
  where
    go : (o : Option ℕ) → (row S.tree n).parent ≡ o → ((p : ℕ) → p ≤ d → p ≤ e → climb S.tree d p (n ∷ l) ≡ climb S.tree e p (n ∷ l))
        → elim o as (λ z. List ℕ) [ None ↦ n ∷ l | Some p ↦ climb S.tree d p (n ∷ l) ] ≡ elim o as (λ z. List ℕ) [ None ↦ n ∷ l | Some p ↦ climb S.tree e p (n ∷ l) ]
    go None q ih = refl
    go (Some p) q ih = let lt : p < n = a.parents n p q in ih p (omega arith) (omega arith)

pub record IsSplit (S : Setup) (m : ℕ) (xs : List ℕ) : Type 0 where
  pub lower : List ℕ
  pub is : xs ≡ way S.tree m ++ lower

-- a node on the climb from n is at the end of its own way, or among the lower nodes
on_climb : (S : Setup) → TreeFacts S → (d n m : ℕ) (l : List ℕ) → n ≤ d → among m (climb S.tree d n l) ≡ true → IsSplit S m (climb S.tree d n l) ⊎ (among m l ≡ true)
unfolding climb way
on_climb S a zero n m l h i = elim (cases_eq n m) [
  | inl q ↦ inl (record { lower = l; is = let z : n ≡ 0 = omega arith in let y : m ≡ 0 = omega arith in rw (z, y) refl })
  | inr q ↦ inr (let e = ne_eqb n m q in rw e at i)
]
on_climb S a (suc d) n m l h i = elim (cases_eq n m) [
  | inl q ↦ inl (record { lower = l; is = climb_fuel S a (suc d) n n l h (omega arith) ∙ climb-append S n n [] l ∙ ap (λ (z : ℕ). climb S.tree z z [] ++ l) q })
  | inr q ↦ go (row S.tree n).parent refl i (ne_eqb n m q) (λ p. on_climb S a d p m (n ∷ l))
]
  where
    go : (o : Option ℕ) → (row S.tree n).parent ≡ o → among m (elim o as (λ z. List ℕ) [ None ↦ n ∷ l | Some p ↦ climb S.tree d p (n ∷ l) ]) ≡ true → eqb n m ≡ false →
        ((p : ℕ) → p ≤ d → among m (climb S.tree d p (n ∷ l)) ≡ true → IsSplit S m (climb S.tree d p (n ∷ l)) ⊎ (among m (n ∷ l) ≡ true)) →
        IsSplit S m (elim o as (λ z. List ℕ) [ None ↦ n ∷ l | Some p ↦ climb S.tree d p (n ∷ l) ]) ⊎ (among m l ≡ true)
    go None e j f ih = inr (rw f at j)
    go (Some p) e j f ih = let lt : p < n = a.parents n p e in elim (ih p (omega arith) j) [ inl s ↦ inl s | inr k ↦ inr (rw f at k) ]

pub path_split : (S : Setup) → TreeFacts S → (k : Spot) (m : ℕ) → k.kind.0 < S.types → on_path S.tree m k ≡ true → IsSplit S m (path S.tree k)
unfolding path on_path way
path_split S a k m h i = elim (on_climb S a (leaf S.tree k) (leaf S.tree k) m [] (le_refl _) i) [ inl s ↦ s | inr j ↦ absurd (cc) ]

-- each of the nodes on the way above `lower` is at most n
climb_le : (S : Setup) → TreeFacts S → (d n m : ℕ) (l : List ℕ) → among m (climb S.tree d n l) ≡ true → (m ≤ n) ⊎ (among m l ≡ true)
unfolding climb
climb_le S a zero n m l i = elim (or_cases (eqb n m) (among m l) i) [ inl e ↦ inl (let q = eqb-true n m e in omega arith) | inr j ↦ inr j ]
climb_le S a (suc d) n m l i = go (row S.tree n).parent refl i (λ p. climb_le S a d p m (n ∷ l))
  where
    go : (o : Option ℕ) → (row S.tree n).parent ≡ o → among m (elim o as (λ z. List ℕ) [ None ↦ n ∷ l | Some p ↦ climb S.tree d p (n ∷ l) ]) ≡ true →
        ((p : ℕ) → among m (climb S.tree d p (n ∷ l)) ≡ true → (m ≤ p) ⊎ (among m (n ∷ l) ≡ true)) → (m ≤ n) ⊎ (among m l ≡ true)
    go None e j ih = elim (or_cases (eqb n m) (among m l) j) [ inl q ↦ inl (let r = eqb-true n m q in omega arith) | inr q ↦ inr q ]
    go (Some p) e j ih = elim (ih p j) [
      | inl q ↦ inl (let r = a.parents n p e in omega arith)
      | inr q ↦ elim (or_cases (eqb n m) (among m l) q) [ inl r ↦ inl (let s = eqb-true n m r in omega arith) | inr r ↦ inr r ]
    ]

-- the way to n consists of nodes of smaller number, and then n
pub record HasFront (S : Setup) (n : ℕ) : Type 0 where
  pub front : List ℕ
  pub is : way S.tree n ≡ front ++ n ∷ []
  pub less : (m : ℕ) → among m front ≡ true → m < n

pub has_front : (S : Setup) → TreeFacts S → (n : ℕ) → HasFront S n
unfolding way climb
has_front S a zero = record { front = []; is = refl; less = λ m i. absurd (cc) }
has_front S a (suc n) = go (row S.tree (suc n)).parent refl
  where
    fill : (o : Option ℕ) → (row S.tree (suc n)).parent ≡ o → List ℕ
    fill None e = []
    fill (Some p) e = climb S.tree n p []

    shape : (o : Option ℕ) (e : (row S.tree (suc n)).parent ≡ o) → elim o as (λ z. List ℕ) [ None ↦ suc n ∷ [] | Some p ↦ climb S.tree n p (suc n ∷ []) ] ≡ fill o e ++ suc n ∷ []
    shape None e = refl
    shape (Some p) e = climb-append S n p [] (suc n ∷ [])

    small : (o : Option ℕ) (e : (row S.tree (suc n)).parent ≡ o) (m : ℕ) → among m (fill o e) ≡ true → m < suc n
    small None e m i = absurd (cc)
    small (Some p) e m i = elim (climb_le S a n p m [] i) [ inl q ↦ (let r = a.parents (suc n) p e in omega arith) | inr q ↦ absurd (cc) ]

    go : (o : Option ℕ) → (row S.tree (suc n)).parent ≡ o → HasFront S (suc n)
    go o e = record { front = fill (row S.tree (suc n)).parent refl; is = shape (row S.tree (suc n)).parent refl; less = small (row S.tree (suc n)).parent refl }

pub among-append_left : (m : ℕ) (xs ys : List ℕ) → among m xs ≡ true → among m (xs ++ ys) ≡ true
among-append_left m [] ys i = absurd (cc)
among-append_left m (x ∷ xs) ys i = elim (or_cases (eqb x m) (among m xs) i) [
  | inl e ↦ or_left (eqb x m) (among m (xs ++ ys)) e
  | inr j ↦ or_right (eqb x m) (among m (xs ++ ys))
      (among-append_left m xs ys j)
]

pub among-append_right : (m : ℕ) (xs ys : List ℕ) → among m ys ≡ true → among m (xs ++ ys) ≡ true
among-append_right m [] ys i = i
among-append_right m (x ∷ xs) ys i = or_right (eqb x m) (among m (xs ++ ys)) (among-append_right m xs ys i)

-- the node that follows m in a path is determined by xs and the node after xs, if m is in xs
pub next_front : (m o p n : ℕ) (xs ls ms : List ℕ) → among m xs ≡ true → next_of m o (xs ++ n ∷ ls) ≡ next_of m p (xs ++ n ∷ ms)
unfolding next_of
next_front m o p n [] ls ms i = absurd (cc)
next_front m o p n (x ∷ []) ls ms i = elim (or_cases (eqb x m) false i) [ inl e ↦ rw (e) refl | inr j ↦ absurd (cc) ]
next_front m o p n (x ∷ y ∷ xs) ls ms i = go (eqb x m) i (next_front m o p n (y ∷ xs) ls ms)
  where
    go : (b : Bool) → (b || among m (y ∷ xs)) ≡ true → (among m (y ∷ xs) ≡ true → next_of m o (y ∷ (xs ++ n ∷ ls)) ≡ next_of m p (y ∷ (xs ++ n ∷ ms))) →
        cond b y (next_of m o (y ∷ (xs ++ n ∷ ls))) ≡ cond b y (next_of m p (y ∷ (xs ++ n ∷ ms)))
    go true j ih = refl
    go false j ih = ih j

-- the key of a path, from the rank f and the side g at each node
abbrev pub key_of : (ℕ → ℕ) → (ℕ → ℕ) → List ℕ → List ℕ
key_of f g ns = flat_map (λ n. f n ∷ g n ∷ []) ns

lex_pair : (a b c d : ℕ) (xs ys : List ℕ) → (a < b) ⊎ ((a ≡ b) × (c ≡ d) × (lex xs ys ≡ true)) → lex (a ∷ c ∷ xs) (b ∷ d ∷ ys) ≡ true
unfolding lex
lex_pair a b c d xs ys h = elim h [
  | inl l ↦ or_left (ltb a b) _ (lt-ltb a b l)
  | inr e ↦ or_right (ltb a b) _ (rw (eq-eqb a b e.0) (or_right (ltb c d) _ (rw (eq-eqb c d e.1) e.2)))
]

-- if above n the ranks are no greater and the sides are equal, and at n the rank is smaller, the key is smaller
pub lex_front : (f g h k : ℕ → ℕ) (n : ℕ) (xs ls ms : List ℕ) → ((m : ℕ) → among m xs ≡ true → (f m ≤ h m) × (g m ≡ k m)) → f n < h n →
    lex (key_of f g (xs ++ n ∷ ls)) (key_of h k (xs ++ n ∷ ms)) ≡ true
lex_front f g h k n [] ls ms up l = lex_pair (f n) (h n) (g n) (k n) _ _ (inl l)
lex_front f g h k n (x ∷ xs) ls ms up l =
    let u = up x (or_left (eqb x x) (among x xs) (eq-eqb x x refl)) in
    lex_pair (f x) (h x) (g x) (k x) _ _ (elim (cases_lt (f x) (h x)) [
      | inl q ↦ inl q
      | inr q ↦ inr (omega arith, u.1, lex_front f g h k n xs ls ms (λ m i. up m (or_right (eqb x m) (among m xs) i)) l)
    ])

pub lex_irreflexive : (xs : List ℕ) → lex xs xs ≡ false
unfolding lex
lex_irreflexive [] = refl
lex_irreflexive (x ∷ xs) = rw (le-ltb x x (le_refl x), eq-eqb x x refl, lex_irreflexive xs) refl

lex-cases : (x y : ℕ) (xs ys : List ℕ) → lex (x ∷ xs) (y ∷ ys) ≡ true → (x < y) ⊎ ((x ≡ y) × (lex xs ys ≡ true))
unfolding lex
lex-cases x y xs ys h = elim (or_cases (ltb x y) _ h) [ inl e ↦ inl (ltb-true x y e) | inr e ↦ (let p = and_parts (eqb x y) (lex xs ys) e in inr (eqb-true x y p.0, p.1)) ]

lex_from : (x y : ℕ) (xs ys : List ℕ) → (x < y) ⊎ ((x ≡ y) × (lex xs ys ≡ true)) → lex (x ∷ xs) (y ∷ ys) ≡ true
unfolding lex
lex_from x y xs ys h = elim h [ inl l ↦ or_left (ltb x y) _ (lt-ltb x y l) | inr e ↦ or_right (ltb x y) _ (rw (eq-eqb x y e.0) e.1) ]

pub lex_transitive : (xs ys zs : List ℕ) → lex xs ys ≡ true → lex ys zs ≡ true → lex xs zs ≡ true
lex_transitive xs ys [] h k = absurd (unfold lex in let q : lex ys [] ≡ true = k in cc)
lex_transitive xs [] (z ∷ zs) h k = absurd (unfold lex in let q : lex xs [] ≡ true = h in cc)
lex_transitive [] (y ∷ ys) (z ∷ zs) h k = unfold lex in refl
lex_transitive (x ∷ xs) (y ∷ ys) (z ∷ zs) h k = lex_from x z xs zs (elim (lex-cases x y xs ys h) [
  | inl l ↦ elim (lex-cases y z ys zs k) [ inl m ↦ inl (omega arith) | inr e ↦ inl (let q = e.0 in omega arith) ]
  | inr d ↦ elim (lex-cases y z ys zs k) [ inl m ↦ inl (let q = d.0 in omega arith) | inr e ↦ inr (d.0 ∙ e.0, lex_transitive xs ys zs d.1 e.1) ]
])

pub lex_total : (xs ys : List ℕ) → (xs ≡ ys → ⊥) → lex xs ys ≡ false → lex ys xs ≡ true
lex_total [] [] h k = absurd (h refl)
lex_total [] (y ∷ ys) h k = absurd (unfold lex in let q : lex [] (y ∷ ys) ≡ false = k in cc)
lex_total (x ∷ xs) [] h k = unfold lex in refl
lex_total (x ∷ xs) (y ∷ ys) h k = lex_from y x ys xs (elim (cases_order x y) [
  | inl e ↦ inr (sym e, lex_total xs ys (λ q. h (cc)) (false_from_ne_true _ (λ t. both_ways _ k (lex_from x y xs ys (inr (e, t))))))
  | inr o ↦ elim o [ inl l ↦ absurd (both_ways _ k (lex_from x y xs ys (inl l))) | inr l ↦ inl l ]
])
