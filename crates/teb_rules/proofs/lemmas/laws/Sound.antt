-- A tree without a fault has the properties that the laws use.
use Rattle.std.proofs.Common.{◌≡◌, ◌≢◌, ℕ, zero, suc, ◌<◌, ◌≤◌, ◌%◌, Bool, true, false, cond, not, ◌&&◌, ◌||◌, eqb, ltb, List, [], ◌∷◌, ◌++◌, length, map, Option, Some}
use Rattle.std.proofs.Common.{None, is_some, unwrap_or, refl, sym, ◌∙◌, ap, subst, inl, inr, arith, filter, find, eqb-true, eq-eqb, ne_eqb, ltb-true, ltb-false}
use Rattle.std.proofs.lemmas.Bool.{cases_Bool, cases_lt, both_ways, cases_eq, false_from_ne_true, not-false, not_from_false, eqb-false, or_cases, or_parts, and_parts, and_from, and_cases}
use Rattle.std.proofs.lemmas.List.{get_or_past}
use Rattle.std.proofs.Math.Nat.{mod-lt}
use Rattle.std.specs.List.{list_any}
use Rattle.teb_rules.specs.declared.names.Spot.{Spot}
use Rattle.teb_rules.specs.declared.names.ControlKind.TheVariants.{Timestamp, Snapshot}
use Rattle.teb_rules.specs.Serializes.{In, Pairs}
use Rattle.teb_rules.proofs.lemmas.laws.Lists.{In-append_cases, list_any_from}
use Rattle.teb_rules.proofs.lemmas.laws.Serial.{filter-In}
use Rattle.teb_rules.proofs.lemmas.laws.TableRanks.{In-below, below-In}
use Rattle.teb_rules.specs.laws.TreeFacts.{IsAbove, TreeFacts}
use Rattle.teb_rules.specs.Accepted.{Fault, Homeless, IsSound, are_few, breaks_P1, breaks_P2, breaks_P3, first_at, has_children, has_types, homes, is_child_of, is_homeless, is_later}
use Rattle.teb_rules.specs.Accepted.{is_misparented, is_misrooted, is_too_deep, is_twice, or_fault, placement_fault, repeats, shape_fault, share_a_type, some_above, tree_fault}
use Rattle.teb_rules.specs.Setup.{NodeRow, Setup, among}
use Rattle.teb_rules.specs.Tree.{below, is_locks, is_pipeline, is_snapshot, is_timestamp, leaf, no_row, row, way}
use Rattle.teb_rules.proofs.lemmas.laws.Lists.{Pairs-weaker}
use Rattle.teb_rules.proofs.lemmas.laws.Pigeons.{Distinct-map, In-map_from, all_hit, length-map}
use Rattle.teb_rules.specs.declared.names.ControlKind.{ControlKind}
use Rattle.teb_rules.specs.Tree.{houses}

or_fault_none : (o r : Option (ℕ × Fault)) → or_fault o r ≡ None → (o ≡ None) × (r ≡ None)
or_fault_none None r h = (refl, h)
or_fault_none (Some w) r h = absurd (cc)

first_at_none : (f : ℕ → Option Fault) (ns : List ℕ) → first_at f ns ≡ None → (n : ℕ) → In n ns → f n ≡ None
first_at_none f [] h n i = absurd i
first_at_none f (m ∷ ms) h n i = go (f m) refl h i (λ k. first_at_none f ms k n)
  where
    go : (o : Option Fault) → f m ≡ o → elim o as (λ z. Option (ℕ × Fault)) [ Some w ↦ Some (m, w) | None ↦ first_at f ms ] ≡ None → In n (m ∷ ms) → (first_at f ms ≡ None → In n ms → f n ≡ None)
        → f n ≡ None
    go (Some w) e h i ih = absurd (cc)
    go None e h i ih = elim i [ inl q ↦ ap f (sym q) ∙ e | inr j ↦ ih h j ]

cond_none : (b : Bool) (w : Fault) (o : Option Fault) → cond b (Some w) o ≡ None → (b ≡ false) × (o ≡ None)
cond_none true w o h = absurd (cc)
cond_none false w o h = (refl, h)

cond_no_fault : (b : Bool) (w : ℕ × Fault) → cond b (Some w) None ≡ None → b ≡ false
cond_no_fault true w h = absurd (cc)
cond_no_fault false w h = refl

-- a node has none of the faults
record NoFault (S : Setup) (n : ℕ) : Type 0 where
  root : is_misrooted S.tree n ≡ false
  parent : is_misparented S.tree n ≡ false
  mixed : (has_types S.tree n && has_children S.tree n) ≡ false
  twice : is_twice S.tree n ≡ false
  p1 : breaks_P1 S.tree n ≡ false
  p2 : breaks_P2 S.tree n ≡ false
  p3 : breaks_P3 S.tree n ≡ false

no_fault : (S : Setup) → IsSound S → (n : ℕ) → n < length S.tree → NoFault S n
unfolding tree_fault
no_fault S s n h =
    let a = or_fault_none (first_at (shape_fault S.tree) (below (length S.tree))) _ s.accepted in
    let b = or_fault_none (cond (list_any (is_homeless S.tree) (below S.types)) (Some (0, Homeless)) None) (first_at (placement_fault S.tree) (below (length S.tree))) a.1 in
    let i = In-below (length S.tree) n h in
    let c = first_at_none (shape_fault S.tree) (below (length S.tree)) a.0 n i in
    let d = first_at_none (placement_fault S.tree) (below (length S.tree)) b.1 n i in
    let c0 = cond_none (is_misrooted S.tree n) _ _ c in
    let c1 = cond_none (is_misparented S.tree n) _ _ c0.1 in
    let c2 = cond_none (is_too_deep S.tree n) _ _ c1.1 in
    let c3 = cond_none (has_types S.tree n && has_children S.tree n) _ _ c2.1 in
    let c4 = cond_none (not (has_types S.tree n) && not (has_children S.tree n)) _ _ c3.1 in
    let c5 = cond_none (is_twice S.tree n) _ _ c4.1 in
    let d0 = cond_none (breaks_P1 S.tree n) _ _ d in
    let d1 = cond_none (breaks_P2 S.tree n) _ _ d0.1 in
    let d2 = cond_none (breaks_P3 S.tree n) _ _ d1.1 in
    record { root = c0.0; parent = c1.0; mixed = c3.0; twice = c5.0; p1 = d0.0; p2 = d1.0; p3 = d2.0 }

no_homeless : (S : Setup) → IsSound S → (k : ℕ) → k < S.types → is_homeless S.tree k ≡ false
unfolding tree_fault
no_homeless S s k h =
    let a = or_fault_none (first_at (shape_fault S.tree) (below (length S.tree))) _ s.accepted in
    let b = or_fault_none (cond (list_any (is_homeless S.tree) (below S.types)) (Some (0, Homeless)) None) _ a.1 in
    let c = cond_no_fault (list_any (is_homeless S.tree) (below S.types)) (0, Homeless) b.0 in
    false_from_ne_true _ (λ q. both_ways _ c (list_any_from (is_homeless S.tree) (below S.types) k (In-below S.types k h) q))

past_row : (S : Setup) (n : ℕ) → length S.tree ≤ n → row S.tree n ≡ no_row
past_row S n h = get_or_past S.tree n no_row h

among-In : (m : ℕ) (xs : List ℕ) → among m xs ≡ true → In m xs
among-In m [] h = absurd (cc)
among-In m (x ∷ xs) h = elim (or_cases (eqb x m) (among m xs) h) [ inl e ↦ inl (eqb-true x m e) | inr j ↦ inr (among-In m xs j) ]

none_is : (o : Option ℕ) → is_some o ≡ false → o ≡ None
none_is None h = refl
none_is (Some p) h = absurd (cc)

root_of : (S : Setup) → IsSound S → (row S.tree 0).parent ≡ None
root_of S s = let f = (no_fault S s 0 s.some).root in none_is _ (or_parts (is_some (row S.tree 0).parent) _ f).0

rooted_of : (S : Setup) → IsSound S → (n : ℕ) → n < length S.tree → (row S.tree n).parent ≡ None → n ≡ 0
rooted_of S s n h e = elim (cases_eq n 0) [
  | inl q ↦ q
  | inr q ↦ absurd (let f = (no_fault S s n h).root in let g = or_parts (eqb n 0 && is_some (row S.tree n).parent) _ f in
      both_ways _ g.1 (and_from _ _ (not_from_false _ (ne_eqb n 0 q)) (rw e refl)))
]

later_is : (o : Option ℕ) (n p : ℕ) → is_later o n ≡ false → o ≡ Some p → p < n
later_is None n p h e = absurd (cc)
later_is (Some q) n p h e = let z : q ≡ p = cc in let y = ltb-true q n (not-false _ h) in omega arith

inside : (S : Setup) (n p : ℕ) → (row S.tree n).parent ≡ Some p → n < length S.tree
inside S n p e = elim (cases_lt n (length S.tree)) [ inl h ↦ h | inr h ↦ absurd (let q : (row S.tree n).parent ≡ None = ap (λ (r : NodeRow). r.parent) (past_row S n h) in cc) ]

parents_of : (S : Setup) → IsSound S → (n p : ℕ) → (row S.tree n).parent ≡ Some p → p < n
parents_of S s n p e = later_is (row S.tree n).parent n p (no_fault S s n (inside S n p e)).parent e

no_types : (ks : List ℕ) → ltb 0 (length ks) ≡ false → ks ≡ []
no_types [] h = refl
no_types (k ∷ ks) h = absurd (let z = ltb-false 0 (suc (length ks)) h in omega arith)

child_is : (o : Option ℕ) (p : ℕ) → o ≡ Some p → is_child_of p o ≡ true
child_is None p e = absurd (cc)
child_is (Some q) p e = let z : q ≡ p = cc in eq-eqb q p z

leaves_of : (S : Setup) → IsSound S → (n p : ℕ) → (row S.tree n).parent ≡ Some p → (row S.tree p).types ≡ []
leaves_of S s n p e =
    let hn = inside S n p e in
    let hp = parents_of S s n p e in
    let m = (no_fault S s p (omega arith)).mixed in
    no_types _ (elim (and_cases (has_types S.tree p) (has_children S.tree p) m) [
      | inl q ↦ q
      | inr q ↦ absurd (both_ways _ q (list_any_from (λ m. is_child_of p (row S.tree m).parent) (below (length S.tree)) n (In-below (length S.tree) n hn) (child_is _ p e)))
    ])

-- a node that is not a locks node is in the tree
within : (S : Setup) (n : ℕ) → is_locks (row S.tree n).control ≡ false → n < length S.tree
within S n e = elim (cases_lt n (length S.tree)) [
  | inl h ↦ h
  | inr h ↦ absurd (let q : is_locks (row S.tree n).control ≡ true = ap (λ (r : NodeRow). is_locks r.control) (past_row S n h) in
      both_ways _ e q)
]

snapshot_kind : (c : ControlKind) → is_snapshot c ≡ true → is_locks c ≡ false
snapshot_kind Snapshot e = refl
snapshot_kind _ e = absurd (cc)

stamp_kind : (c : ControlKind) → is_timestamp c ≡ true → is_locks c ≡ false
stamp_kind Timestamp e = refl
stamp_kind _ e = absurd (cc)

snapshot_no_locks : (S : Setup) (n : ℕ) → is_snapshot (row S.tree n).control ≡ true → is_locks (row S.tree n).control ≡ false
snapshot_no_locks S n e = snapshot_kind (row S.tree n).control e

stamp_no_locks : (S : Setup) (n : ℕ) → is_timestamp (row S.tree n).control ≡ true → is_locks (row S.tree n).control ≡ false
stamp_no_locks S n e = stamp_kind (row S.tree n).control e

snapshots_of : (S : Setup) → IsSound S → (n : ℕ) → is_snapshot (row S.tree n).control ≡ true → n ≡ 0
snapshots_of S s n e = let f = (no_fault S s n (within S n (snapshot_no_locks S n e))).p1 in
    elim (and_cases _ _ f) [ inl q ↦ absurd (both_ways _ q e) | inr q ↦ eqb-true n 0 (not-false _ q) ]

above_from : (S : Setup) (m n : ℕ) (p : NodeRow → Bool) → IsAbove S m n → p (row S.tree m) ≡ true → some_above S.tree n p ≡ true
above_from S m n p a h = list_any_from (λ m. not (eqb m n) && p (row S.tree m)) (way S.tree n) m (among-In m (way S.tree n) a.0) (and_from _ _ (not_from_false _ (ne_eqb m n a.1)) h)

timestamps_of : (S : Setup) → IsSound S → (m n : ℕ) → IsAbove S m n → is_locks (row S.tree m).control ≡ true → is_timestamp (row S.tree n).control ≡ true → (row S.tree n).ordered ≡ true
timestamps_of S s m n a l t = let f = (no_fault S s n (within S n (stamp_no_locks S n t))).p2 in
    elim (and_cases _ _ f) [
      | inl q ↦ elim (and_cases _ _ q) [ inl r ↦ absurd (both_ways _ r t) | inr r ↦ not-false _ r ]
      | inr q ↦ absurd (both_ways _ q (above_from S m n (λ r. is_locks r.control) a l))
    ]

pipelines_of : (S : Setup) → IsSound S → (m n : ℕ) → IsAbove S m n → is_pipeline (row S.tree m).control ≡ true → is_timestamp (row S.tree n).control ≡ true → ⊥
pipelines_of S s m n a l t = let f = (no_fault S s n (within S n (stamp_no_locks S n t))).p3 in
    elim (and_cases _ _ f) [ inl q ↦ both_ways _ q t | inr q ↦ both_ways _ q (above_from S m n (λ r. is_pipeline r.control) a l) ]

-- two homes of a type have the same number of parts, and different parts
pub record Apart (S : Setup) (m n : ℕ) : Type 0 where
  pub part : (row S.tree m).part ≢ (row S.tree n).part
  pub parts : (row S.tree m).parts ≡ (row S.tree n).parts

pub apart_of : (S : Setup) → IsSound S → (k m n : ℕ) → m < n → n < length S.tree → among k (row S.tree m).types ≡ true → among k (row S.tree n).types ≡ true → Apart S m n
apart_of S s k m n lt h im in_n =
    let f = (no_fault S s n h).twice in
    let g = (or_parts (repeats (row S.tree n).types) _ f).1 in
    let share : share_a_type S.tree m n ≡ true = list_any_from (λ k. among k (row S.tree m).types) (row S.tree n).types k (among-In k (row S.tree n).types in_n) im in
    let no : (share_a_type S.tree m n && (eqb (row S.tree m).part (row S.tree n).part || not (eqb (row S.tree m).parts (row S.tree n).parts))) ≡ false =
    false_from_ne_true _ (λ q. both_ways _ g (list_any_from (λ m. share_a_type S.tree m n && (eqb (row S.tree m).part (row S.tree n).part || not (eqb (row S.tree m).parts (row S.tree n).parts)))
    (below n) m (In-below n m lt) q)) in
    elim (and_cases _ _ no) [
      | inl q ↦ absurd (both_ways _ q share)
      | inr q ↦ (let r = or_parts (eqb (row S.tree m).part (row S.tree n).part) _ q in record { part = eqb-false _ _ r.0; parts = eqb-true _ _ (not-false _ r.1) })
    ]

below_rising : (n : ℕ) → Pairs (λ a b. a < b) (below n)
unfolding below
below_rising zero = tt
below_rising (suc n) = rising_append (below n) n (below_rising n) (λ u i. below-In n u i)
  where
    rising_append : (xs : List ℕ) (n : ℕ) → Pairs (λ a b. a < b) xs → ((u : ℕ) → In u xs → u < n) → Pairs (λ a b. a < b) (xs ++ n ∷ [])
    rising_append [] n p f = ((λ u i. absurd i), tt)
    rising_append (x ∷ xs) n p f = (
      (λ u i. elim (In-append_cases u xs (n ∷ []) i) [ inl j ↦ p.0 u j | inr j ↦ elim j [ inl e ↦ subst (λ (z : ℕ). x < z) e (f x (inl refl)) | inr k ↦ absurd k ] ]),
      rising_append xs n p.1 (λ u i. f u (inr i)),
    )

Pairs-filter : (R : ℕ → ℕ → Type 0) (p : ℕ → Bool) (xs : List ℕ) → Pairs R xs → Pairs R (filter p xs)
Pairs-filter R p [] h = tt
Pairs-filter R p (x ∷ xs) h = go (p x) (Pairs-filter R p xs h.1)
  where
    go : (b : Bool) → Pairs R (filter p xs) → Pairs R (cond b (x ∷ filter p xs) (filter p xs))
    go true q = ((λ u i. h.0 u (filter-In p u xs i).0), q)
    go false q = q

-- the homes of a type, in ascending order, are nodes of the tree that have the type
home_is : (S : Setup) (k n : ℕ) → In n (homes S.tree k) → (n < length S.tree) × (among k (row S.tree n).types ≡ true)
unfolding homes
home_is S k n i = let r = filter-In (λ n. among k (row S.tree n).types) n (below (length S.tree)) i in (below-In (length S.tree) n r.0, r.1)

homes_rising : (S : Setup) (k : ℕ) → Pairs (λ a b. a < b) (homes S.tree k)
unfolding homes
homes_rising S k = Pairs-filter (λ a b. a < b) (λ n. among k (row S.tree n).types) (below (length S.tree)) (below_rising (length S.tree))

homes_apart : (S : Setup) → IsSound S → (k : ℕ) (xs : List ℕ) → Pairs (λ a b. a < b) xs → ((n : ℕ) → In n xs → In n (homes S.tree k)) → Pairs (λ m n. Apart S m n) xs
homes_apart S s k [] r f = tt
homes_apart S s k (x ∷ xs) r f = (
  (λ u i. let hx = home_is S k x (f x (inl refl)) in let hu = home_is S k u (f u (inr i)) in apart_of S s k x u (r.0 u i) hu.0 hx.1 hu.1),
  homes_apart S s k xs r.1 (λ n i. f n (inr i)),
)

-- one of the homes has the part that an instance needs
part_home : (S : Setup) → IsSound S → (k i : ℕ) → k < S.types → (n : ℕ) × In n (homes S.tree k) × (i % (row S.tree n).parts ≡ (row S.tree n).part)
part_home S s k i h = go (homes S.tree k) refl (no_homeless S s k h)
  where
    go : (xs : List ℕ) → homes S.tree k ≡ xs → are_few S.tree xs ≡ false → (n : ℕ) × In n (homes S.tree k) × (i % (row S.tree n).parts ≡ (row S.tree n).part)
    go [] e f = absurd (cc)
    go (x ∷ xs) e f =
        let a = homes_apart S s k (x ∷ xs) (subst (λ (z : List ℕ). Pairs (λ a b. a < b) z) e (homes_rising S k)) (λ n j. subst (In n) (sym e) j) in
        let one : (n : ℕ) → In n (x ∷ xs) → (row S.tree n).parts ≡ (row S.tree x).parts = (λ n j. elim j [ inl q ↦ ap (λ (z : ℕ). (row S.tree z).parts) (sym q) | inr q ↦ sym (a.0 n q).parts ]) in
        let small : (n : ℕ) → In n (x ∷ xs) → (row S.tree n).part < (row S.tree x).parts = (λ n j. let z = s.parts n (home_is S k n (subst (In n) (sym e) j)).0 in let y = one n j in omega arith) in
        let some : 0 < (row S.tree x).parts = (let z = small x (inl refl) in omega arith) in
        let enough = ltb-false _ _ f in
        let long = length-map (λ n. (row S.tree n).part) (x ∷ xs) in
        let hit = all_hit (row S.tree x).parts (i % (row S.tree x).parts) (map (λ n. (row S.tree n).part) (x ∷ xs))
        (Distinct-map (λ n. (row S.tree n).part) (x ∷ xs) (Pairs-weaker (λ m n. Apart S m n) (λ m n. (row S.tree m).part ≢ (row S.tree n).part) (x ∷ xs) (λ m n j l b. b.part) a))
        (λ u j. let r = In-map_from (λ n. (row S.tree n).part) (x ∷ xs) u j in subst (λ (z : ℕ). z < (row S.tree x).parts) r.2 (small r.0 r.1))
        (mod-lt i some) (omega arith) in
        let r = In-map_from (λ n. (row S.tree n).part) (x ∷ xs) _ hit in
        (r.0, subst (In r.0) (sym e) r.1, ap (λ (z : ℕ). i % z) (one r.0 r.1) ∙ sym r.2)

found : (p : ℕ → Bool) (us : List ℕ) (u : ℕ) → In u us → p u ≡ true → (m : ℕ) × (find p us ≡ Some m) × In m us × (p m ≡ true)
found p [] u i h = absurd i
found p (v ∷ vs) u i h = elim (cases_Bool (p v)) [
  | inl e ↦ (v, rw e refl, inl refl, e)
  | inr e ↦ (let j : In u vs = elim i [ inl q ↦ absurd (both_ways _ e (subst (λ (z : ℕ). p z ≡ true) (sym q) h)) | inr j ↦ j ] in
      let r = found p vs u j h in (r.0, rw e r.1, inr r.2, r.3))
]

leaf_found : (S : Setup) (s : Spot) (m : ℕ) → find (λ n. houses (row S.tree n) s) (below (length S.tree)) ≡ Some m → leaf S.tree s ≡ m
unfolding leaf
leaf_found S s m e = ap (λ (o : Option ℕ). unwrap_or o 0) e

housed_of : (S : Setup) → IsSound S → (s : Spot) → s.kind.0 < S.types → (leaf S.tree s < length S.tree) × (among s.kind.0 (row S.tree (leaf S.tree s)).types ≡ true)
housed_of S so s h =
    let r = part_home S so s.kind.0 s.instance h in
    let m = home_is S s.kind.0 r.0 r.1 in
    let f = found (λ n. houses (row S.tree n) s) (below (length S.tree)) r.0 (In-below (length S.tree) r.0 m.0) (and_from _ _ m.1 (eq-eqb _ _ r.2)) in
    let e : leaf S.tree s ≡ f.0 = leaf_found S s f.0 f.1 in
    rw e (below-In (length S.tree) f.0 f.2, (and_parts _ _ f.3).0)

pub tree_facts : (S : Setup) → IsSound S → TreeFacts S
tree_facts S s = record {
  some = s.some;
  root = root_of S s;
  rooted = rooted_of S s;
  parents = parents_of S s;
  leaves = leaves_of S s;
  housed = housed_of S s;
  snapshots = snapshots_of S s;
  timestamps = timestamps_of S s;
  pipelines = pipelines_of S s;
}
