-- Nodes, sides and meets of transactions in a lawful history over an accepted tree.
use Rattle.teb_rules.specs.laws.TreeFacts.{IsAbove}
use Rattle.teb_rules.specs.declared.names.Spot.{Spot}
use Rattle.std.proofs.Common.{◌≡◌, ◌≢◌, ◌⊎◌, ℕ, ◌<◌, Bool, true, false, cond, eqb, List, [], ◌∷◌, ◌++◌, Option, Some, refl, sym}
use Rattle.std.proofs.Common.{◌∙◌, ap, subst, inl, inr, arith, length, eqb-true, eq-eqb, ne_eqb, find, append_assoc, unwrap_or}
use Rattle.std.proofs.lemmas.Bool.{both_ways, and_parts, and_from, or_cases, or_left, or_right, not-true, not_from_false, eqb-false}
use Rattle.teb_rules.specs.declared.history.Event.{Event}
use Rattle.teb_rules.specs.history.Phases.{spot_of}
use Rattle.teb_rules.specs.history.Phases.{began_at}
use Rattle.teb_rules.specs.laws.Lawful.{Lawful}
use Rattle.teb_rules.specs.laws.TreeFacts.{TreeFacts}
use Rattle.teb_rules.specs.Setup.{Setup, among}
use Rattle.teb_rules.specs.Tree.{on, side, on_path, side_at, meets, meet, path, way}
use Rattle.teb_rules.proofs.lemmas.laws.Timeline.{kind-lt}
use Rattle.teb_rules.proofs.lemmas.laws.Paths.{path_split, has_front, next_front, among-append_left}

-- the nodes strictly above n
pub front_of : (S : Setup) → TreeFacts S → ℕ → List ℕ
front_of S a n = (has_front S a n).front

-- the path of a transaction below n is the front of n, n, and lower nodes
pub path_through : (S : Setup) (a : TreeFacts S) (k : Spot) (n : ℕ) → k.kind.0 < S.types → on_path S.tree n k ≡ true → (lower : List ℕ) × (path S.tree k ≡ front_of S a n ++ n ∷ lower)
unfolding front_of
path_through S a k n h o =
    let s = path_split S a k n h o in
    let f = has_front S a n in
    (s.lower, s.is ∙ ap (λ (xs : List ℕ). xs ++ s.lower) f.is ∙ append_assoc f.front (n ∷ []) s.lower)

pub among-cases : (m : ℕ) (xs ys : List ℕ) → among m (xs ++ ys) ≡ true → (among m xs ≡ true) ⊎ (among m ys ≡ true)
among-cases m [] ys i = inr i
among-cases m (x ∷ xs) ys i = elim (or_cases (eqb x m) (among m (xs ++ ys)) i) [
  | inl e ↦ inl (or_left (eqb x m) (among m xs) e)
  | inr j ↦ elim (among-cases m xs ys j) [ inl k ↦ inl (or_right (eqb x m) (among m xs) k) | inr k ↦ inr k ]
]

-- the spots below n are below each m above n, on one side of it
pub above_kinds : (S : Setup) (a : TreeFacts S) (n m : ℕ) (k l : Spot) → k.kind.0 < S.types → l.kind.0 < S.types → on_path S.tree n k ≡ true → on_path S.tree n l ≡ true
    → among m (front_of S a n) ≡ true →
    (on_path S.tree m k ≡ true) × ((t u : ℕ) → side_at S.tree m k t ≡ side_at S.tree m l u)
unfolding on_path side_at
above_kinds S a n m k l hk hl ok ol i =
    let p = path_through S a k n hk (unfold on_path in ok) in
    let q = path_through S a l n hl (unfold on_path in ol) in
    (rw p.1 (among-append_left m (front_of S a n) (n ∷ p.0) i), λ t u. rw (p.1, q.1) (next_front m t u n (front_of S a n) p.0 q.0 i))

pub above : (S : Setup) (a : TreeFacts S) (H : List Event) (n m t u : ℕ) → Lawful S H → began_at H t < length H → began_at H u < length H → on S H n t ≡ true → on S H n u ≡ true
    → among m (front_of S a n) ≡ true →
    (on S H m t ≡ true) × (side S H m t ≡ side S H m u)
unfolding on side
above S a H n m t u l bt bu ot ou i =
    let r = above_kinds S a n m (spot_of H t) (spot_of H u) (kind-lt S H t l bt) (kind-lt S H u l bu) ot ou i in (r.0, r.1 t u)

pub meets_parts : (S : Setup) (H : List Event) (n t u : ℕ) → meets S H n t u ≡ true → (on S H n t ≡ true) × (on S H n u ≡ true) × (side S H n t ≢ side S H n u)
unfolding meets
meets_parts S H n t u h =
    let p = and_parts _ _ h in
    let q = and_parts _ _ p.0 in
    (q.0, q.1, eqb-false _ _ (not-true _ p.1))

pub meets_from : (S : Setup) (H : List Event) (n t u : ℕ) → on S H n t ≡ true → on S H n u ≡ true → side S H n t ≢ side S H n u → meets S H n t u ≡ true
unfolding meets
meets_from S H n t u a b c = and_from _ _ (and_from _ _ a b) (not_from_false _ (ne_eqb _ _ c))

pub meets_sym : (S : Setup) (H : List Event) (n t u : ℕ) → meets S H n t u ≡ true → meets S H n u t ≡ true
meets_sym S H n t u h = let p = meets_parts S H n t u h in meets_from S H n u t p.1 p.0 (λ e. p.2 (sym e))

two_splits : (m n : ℕ) (xs ls ys ms : List ℕ) → xs ++ n ∷ ls ≡ ys ++ m ∷ ms → (m ≡ n) ⊎ ((among m xs ≡ true) ⊎ (among n ys ≡ true))
two_splits m n [] ls [] ms e = inl (cc)
two_splits m n [] ls (y ∷ ys) ms e = inr (inr (or_left (eqb y n) (among n ys) (eq-eqb y n (cc))))
two_splits m n (x ∷ xs) ls [] ms e = inr (inl (or_left (eqb x m) (among m xs) (eq-eqb x m (cc))))
two_splits m n (x ∷ xs) ls (y ∷ ys) ms e = elim (two_splits m n xs ls ys ms (cc)) [
  | inl q ↦ inl q
  | inr o ↦ elim o [ inl i ↦ inr (inl (or_right (eqb x m) (among m xs) i)) | inr i ↦ inr (inr (or_right (eqb y n) (among n ys) i)) ]
]

-- of two nodes on one path, one is above the other, or they are the same
pub comparable : (S : Setup) (a : TreeFacts S) (k : Spot) (m n : ℕ) → k.kind.0 < S.types → on_path S.tree m k ≡ true → on_path S.tree n k ≡ true → (m ≡ n)
    ⊎ ((among m (front_of S a n) ≡ true) ⊎ (among n (front_of S a m) ≡ true))
comparable S a k m n h om on_n =
    let p = path_through S a k n h on_n in
    let q = path_through S a k m h om in
    two_splits m n (front_of S a n) p.0 (front_of S a m) q.0 (sym p.1 ∙ q.1)

pub on-path_of : (S : Setup) (H : List Event) (n t : ℕ) → on S H n t ≡ true → on_path S.tree n (spot_of H t) ≡ true
unfolding on
on-path_of S H n t h = h

pub on-among : (S : Setup) (H : List Event) (n t : ℕ) → on S H n t ≡ true → among n (path S.tree (spot_of H t)) ≡ true
unfolding on on_path
on-among S H n t h = h

-- two transactions meet at one node only
pub meets_once : (S : Setup) (a : TreeFacts S) (H : List Event) (m n t u : ℕ) → Lawful S H → began_at H t < length H → began_at H u < length H → meets S H m t u ≡ true → meets S H n t u ≡ true → m ≡ n
meets_once S a H m n t u l bt bu hm hn =
    let p = meets_parts S H m t u hm in
    let q = meets_parts S H n t u hn in
    elim (comparable S a (spot_of H t) m n (kind-lt S H t l bt) (on-path_of S H m t p.0) (on-path_of S H n t q.0)) [
      | inl e ↦ e
      | inr o ↦ elim o [
        | inl i ↦ absurd (p.2 (above S a H n m t u l bt bu q.0 q.1 i).1)
        | inr i ↦ absurd (q.2 (above S a H m n t u l bt bu p.0 p.1 i).1)
      ]
    ]

find_some : (p : ℕ → Bool) (us : List ℕ) (n : ℕ) → among n us ≡ true → p n ≡ true → (m : ℕ) × (find p us ≡ Some m) × (p m ≡ true)
find_some p [] n i h = absurd (cc)
find_some p (u ∷ us) n i h = go (p u) refl (λ j. find_some p us n j h)
  where
    go : (b : Bool) → p u ≡ b → (among n us ≡ true → (m : ℕ) × (find p us ≡ Some m) × (p m ≡ true)) → (m : ℕ) × (cond b (Some u) (find p us) ≡ Some m) × (p m ≡ true)
    go true e ih = (u, refl, e)
    go false e ih = elim (or_cases (eqb u n) (among n us) i) [ inl q ↦ absurd (both_ways (p u) e (subst (λ (z : ℕ). p z ≡ true) (sym (eqb-true u n q)) h)) | inr j ↦ ih j ]

pub meet_is : (S : Setup) (a : TreeFacts S) (H : List Event) (n t u : ℕ) → Lawful S H → began_at H t < length H → began_at H u < length H → meets S H n t u ≡ true → meet S H t u ≡ n
unfolding meet
meet_is S a H n t u l bt bu h =
    let r = find_some (λ z. meets S H z t u) (path S.tree (spot_of H t)) n (on-among S H n t (meets_parts S H n t u h).0) h in
    ap (λ (o : Option ℕ). unwrap_or o 255) r.1 ∙ meets_once S a H r.0 n t u l bt bu r.2 h

-- the front of n: the nodes above n, which have smaller numbers
pub front-less : (S : Setup) (a : TreeFacts S) (n m : ℕ) → among m (front_of S a n) ≡ true → m < n
unfolding front_of
front-less S a n m i = (has_front S a n).less m i

pub front-above : (S : Setup) (a : TreeFacts S) (n m : ℕ) → among m (front_of S a n) ≡ true → IsAbove S m n
unfolding front_of
front-above S a n m i = let f = has_front S a n in let l = f.less m i in (rw f.is (among-append_left m f.front (n ∷ []) i), omega arith)

pub way_front : (S : Setup) (a : TreeFacts S) (n : ℕ) → way S.tree n ≡ front_of S a n ++ n ∷ []
unfolding front_of
way_front S a n = (has_front S a n).is
