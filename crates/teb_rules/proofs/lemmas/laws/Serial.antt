-- The serial order is a strict total order on the committed transactions, and keeps the order of every node.
use Rattle.teb_rules.specs.declared.names.Spot.{Spot}
use Rattle.std.proofs.Common.{◌≡◌, ◌≢◌, ℕ, zero, suc, ◌<◌, ◌≤◌, Bool, true, false, cond, eqb, List, [], ◌∷◌, ◌++◌, refl, sym, ◌∙◌, ap, subst, inl, inr, arith, length, ltb-true, lt-ltb, filter}
use Rattle.std.proofs.lemmas.Bool.{both_ways, false_from_ne_true, or_parts}
use Rattle.teb_rules.specs.declared.history.Event.{Event}
use Rattle.teb_rules.specs.history.Phases.{spot_of}
use Rattle.teb_rules.specs.history.Phases.{txns, numbers, began_at, done_at, committed}
use Rattle.teb_rules.specs.laws.Lawful.{Lawful}
use Rattle.teb_rules.specs.laws.TreeFacts.{TreeFacts}
use Rattle.teb_rules.specs.Ranks.{key, rank, serially, serial_order}
use Rattle.teb_rules.specs.Serializes.{In, Pairs}
use Rattle.teb_rules.specs.Setup.{Setup, among}
use Rattle.teb_rules.specs.Tree.{side, side_at, meets, path, leaf, next_of}
use Rattle.teb_rules.proofs.lemmas.laws.Lists.{IsStrict, Each, Sorted, Distinct, Sorted-sort, In-sort, sort-In, In-append_cases}
use Rattle.teb_rules.proofs.lemmas.laws.Paths.{key_of, lex_front, lex_irreflexive, lex_transitive, lex_total}
use Rattle.teb_rules.proofs.lemmas.laws.Timeline.{kind-lt}
use Rattle.teb_rules.proofs.lemmas.laws.Locks.{In-txns}
use Rattle.teb_rules.proofs.lemmas.laws.Nodes.{front_of, path_through, above, meets_parts, on-path_of, way_front, front-less}
use Rattle.teb_rules.proofs.lemmas.laws.Ranks.{rank_up, commits}

-- t is committed, by position
abbrev pub Commits : List Event → ℕ → Type 0
Commits H t = done_at H t < length H

pub commits_from : (H : List Event) (t : ℕ) → committed H t ≡ true → Commits H t
unfolding committed
commits_from H t h = ltb-true _ _ h

pub committed_from : (H : List Event) (t : ℕ) → Commits H t → committed H t ≡ true
unfolding committed
committed_from H t h = lt-ltb _ _ h

pub path_leaf : (S : Setup) (a : TreeFacts S) (k : Spot) → k.kind.0 < S.types → path S.tree k ≡ front_of S a (leaf S.tree k) ++ leaf S.tree k ∷ []
unfolding path
path_leaf S a k h = way_front S a (leaf S.tree k)

next_end : (n o : ℕ) (xs : List ℕ) → among n xs ≡ false → next_of n o (xs ++ n ∷ []) ≡ o
unfolding next_of
next_end n o [] h = refl
next_end n o (x ∷ []) h = let p = or_parts (eqb x n) false h in rw p.0 refl
next_end n o (x ∷ y ∷ xs) h = let p = or_parts (eqb x n) (among n (y ∷ xs)) h in rw p.0 (next_end n o (y ∷ xs) p.1)

unfoldable pub end_of : List ℕ → ℕ
end_of [] = 0
end_of (x ∷ []) = x
end_of (x ∷ y ∷ ys) = end_of (y ∷ ys)

key_end : (f g : ℕ → ℕ) (n : ℕ) (xs : List ℕ) → end_of (key_of f g (xs ++ n ∷ [])) ≡ g n
unfolding end_of
key_end f g n [] = refl
key_end f g n (x ∷ []) = refl
key_end f g n (x ∷ y ∷ xs) = key_end f g n (y ∷ xs)

key_names : (S : Setup) (a : TreeFacts S) (H : List Event) (t : ℕ) → Lawful S H → Commits H t → end_of (key S H t) ≡ t
unfolding key side side_at
key_names S a H t l d =
    let b : began_at H t < length H = (let z = commits S H t l d in omega arith) in
    let n = leaf S.tree (spot_of H t) in
    let p = path_leaf S a (spot_of H t) (kind-lt S H t l b) in
    ap (λ (ns : List ℕ). end_of (key_of (λ n. rank S H n t) (λ n. side S H n t) ns)) p
    ∙ key_end (λ n. rank S H n t) (λ n. side S H n t) n (front_of S a n)
    ∙ ap (next_of n t) p
    ∙ next_end n t (front_of S a n) (false_from_ne_true _ (λ i. let z = front-less S a n n i in absurd (omega arith)))

pub serial_strict : (S : Setup) (a : TreeFacts S) (H : List Event) → Lawful S H → IsStrict (serially S H) (Commits H)
unfolding serially
serial_strict S a H l = record {
  irreflexive = λ t c. lex_irreflexive (key S H t);
  asymmetric = λ t u c d h. false_from_ne_true _ (λ k. absurd (both_ways _ (lex_irreflexive (key S H t)) (lex_transitive (key S H t) (key S H u) (key S H t) h k)));
  transitive = λ t u w c d e h k. lex_transitive (key S H t) (key S H u) (key S H w) h k;
  total = λ t u c d ne h. lex_total (key S H t) (key S H u) (λ e. ne (sym (key_names S a H t l c) ∙ ap end_of e ∙ key_names S a H u l d)) h;
}

-- a transaction of smaller rank at the meet is earlier in the serial order
pub serial_from_rank : (S : Setup) (a : TreeFacts S) (H : List Event) (m u w : ℕ) → Lawful S H → Commits H u → Commits H w → meets S H m u w ≡ true → rank S H m u < rank S H m w
    → serially S H u w ≡ true
unfolding serially key
serial_from_rank S a H m u w l du dw e r =
    let bu : began_at H u < length H = (let z = commits S H u l du in omega arith) in
    let bw : began_at H w < length H = (let z = commits S H w l dw in omega arith) in
    let p = meets_parts S H m u w e in
    let x = path_through S a (spot_of H u) m (kind-lt S H u l bu) (on-path_of S H m u p.0) in
    let y = path_through S a (spot_of H w) m (kind-lt S H w l bw) (on-path_of S H m w p.1) in
    rw (x.1, y.1) (lex_front (λ n. rank S H n u) (λ n. side S H n u) (λ n. rank S H n w) (λ n. side S H n w) m (front_of S a m) x.0 y.0
    (λ n i. (rank_up S a H m n u w l du dw e i r, (above S a H m n u w l bu bw p.0 p.1 i).1)) r)

pub In-filter : (p : ℕ → Bool) (u : ℕ) (us : List ℕ) → In u us → p u ≡ true → In u (filter p us)
In-filter p u [] i h = i
In-filter p u (v ∷ vs) i h = go (p v) refl (λ j. In-filter p u vs j h)
  where
    go : (b : Bool) → p v ≡ b → (In u vs → In u (filter p vs)) → In u (cond b (v ∷ filter p vs) (filter p vs))
    go true e ih = elim i [ inl q ↦ inl q | inr j ↦ inr (ih j) ]
    go false e ih = elim i [ inl q ↦ absurd (both_ways (p v) e (subst (λ (z : ℕ). p z ≡ true) (sym q) h)) | inr j ↦ ih j ]

pub filter-In : (p : ℕ → Bool) (u : ℕ) (us : List ℕ) → In u (filter p us) → In u us × (p u ≡ true)
filter-In p u [] i = absurd i
filter-In p u (v ∷ vs) i = go (p v) refl i (filter-In p u vs)
  where
    go : (b : Bool) → p v ≡ b → In u (cond b (v ∷ filter p vs) (filter p vs)) → (In u (filter p vs) → In u vs × (p u ≡ true)) → In u (v ∷ vs) × (p u ≡ true)
    go true e j ih = elim j [ inl q ↦ (inl q, subst (λ (z : ℕ). p z ≡ true) q e) | inr k ↦ (let r = ih k in (inr r.0, r.1)) ]
    go false e j ih = let r = ih j in (inr r.0, r.1)

pub Distinct-filter : (p : ℕ → Bool) (us : List ℕ) → Distinct us → Distinct (filter p us)
Distinct-filter p [] d = tt
Distinct-filter p (v ∷ vs) d = go (p v) (Distinct-filter p vs d.1)
  where
    go : (b : Bool) → Distinct (filter p vs) → Distinct (cond b (v ∷ filter p vs) (filter p vs))
    go true r = ((λ u i. d.0 u (filter-In p u vs i).0), r)
    go false r = r

pub numbers-In : (n u : ℕ) → In u (numbers n) → u ≤ n
unfolding numbers
numbers-In zero u i = absurd i
numbers-In (suc n) u i = elim (In-append_cases u (numbers n) (suc n ∷ []) i) [ inl j ↦ (let z = numbers-In n u j in omega arith) | inr j ↦ elim j [ inl q ↦ omega arith | inr k ↦ absurd k ] ]

pub Pairs-append : (R : ℕ → ℕ → Type 0) (xs ys : List ℕ) → Pairs R xs → Pairs R ys → ((t u : ℕ) → In t xs → In u ys → R t u) → Pairs R (xs ++ ys)
Pairs-append R [] ys p q f = q
Pairs-append R (x ∷ xs) ys p q f = ((λ u i. elim (In-append_cases u xs ys i) [ inl j ↦ p.0 u j | inr j ↦ f x u (inl refl) j ]), Pairs-append R xs ys p.1 q (λ t u i j. f t u (inr i) j))

pub Distinct-numbers : (n : ℕ) → Distinct (numbers n)
unfolding numbers
Distinct-numbers zero = tt
Distinct-numbers (suc n) = Pairs-append (λ t u. t ≢ u) (numbers n) (suc n ∷ []) (Distinct-numbers n) ((λ u i. absurd i), tt)
    (λ t u i j. let z = numbers-In n t i in elim j [ inl q ↦ omega arith | inr k ↦ absurd k ])

-- the serial order lists each committed transaction once, sorted
pub order_each : (S : Setup) (a : TreeFacts S) (H : List Event) → Lawful S H → Each (Commits H) (serial_order S H)
unfolding serial_order
order_each S a H l t i = commits_from H t (filter-In (committed H) t (txns H) (In-sort (serially S H) t _ i)).1

pub order_all : (S : Setup) (a : TreeFacts S) (H : List Event) → Lawful S H → (t : ℕ) → Commits H t → In t (serial_order S H)
unfolding serial_order
order_all S a H l t c = sort-In (serially S H) t _ (In-filter (committed H) t (txns H) (In-txns S H t l (let z = commits S H t l c in omega arith)) (committed_from H t c))

pub order_sorted : (S : Setup) (a : TreeFacts S) (H : List Event) → Lawful S H → Sorted (serially S H) (serial_order S H)
unfolding serial_order txns
order_sorted S a H l = Sorted-sort (serially S H) (Commits H) (serial_strict S a H l) _ (λ t i. commits_from H t (filter-In (committed H) t (txns H) i).1)
    (Distinct-filter (committed H) (txns H) (Distinct-numbers _))
