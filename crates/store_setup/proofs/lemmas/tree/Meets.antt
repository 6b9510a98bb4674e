-- The node at which two paths of an accepted tree part is the lowest on both, and transactions with these paths meet there.
use Rattle.std.proofs.Common.{◌≡◌, ◌≢◌, ℕ, ◌<◌, Bool, true, false, eqb, List, [], ◌∷◌, ◌++◌, length, find, Option, Some, unwrap_or, refl, sym, ◌∙◌, ap, subst, inl, inr, eq-eqb, ne_eqb}
use Rattle.std.proofs.lemmas.Bool.{or_left, or_right, false_from_ne_true}
use Rattle.teb_rules.specs.declared.names.Spot.{Spot}
use Rattle.teb_rules.specs.declared.history.Event.{Event}
use Rattle.teb_rules.specs.history.Phases.{spot_of}
use Rattle.teb_rules.specs.Setup.{NodeRow, Setup, among}
use Rattle.teb_rules.specs.Tree.{path, on_path, next_of, side_at, on, side, meets, meet}
use Rattle.teb_rules.proofs.lemmas.laws.Paths.{among-append_left, among-append_right, next_front}
use Rattle.teb_rules.proofs.lemmas.laws.Nodes.{above_kinds, comparable, front_of, meets_from, meets_parts, way_front}
use Rattle.teb_rules.proofs.lemmas.laws.Meeting.{Parting, parting, path_good, no_child, head_or}
use Rattle.store_setup.specs.tree.Grown.{Grown}
use Rattle.store_setup.specs.tree.Meets.{last_shared, IsLowest, IsMeet}
use Rattle.store_setup.specs.tree.Sound.{IsAccepted}
use Rattle.store_setup.proofs.lemmas.tree.Facts.{setup_of_tree, facts_of}
use Rattle.store_setup.proofs.lemmas.tree.Paths.{next_split, path_within}

-- the search for the last shared node skips the common front of two lists
shared_front : (above n : ℕ) (xs ls ms : List ℕ) → last_shared above (xs ++ n ∷ ls) (xs ++ n ∷ ms) ≡ last_shared n ls ms
shared_front above n [] ls ms = rw (eq-eqb n n refl) refl
shared_front above n (x ∷ xs) ls ms = rw (eq-eqb x x refl) (shared_front x n xs ls ms)

-- two paths part at the last node that they share
pub parts_at : (S : Setup) (above : ℕ) (p q : List ℕ) (r : Parting S p q) → last_shared above p q ≡ r.node
parts_at S above p q r = rw (r.is_left, r.is_right) (shared_front above r.node r.front r.left r.right ∙ elim r.part [
  | inl e ↦ rw e.0 refl
  | inr o ↦ elim o [
    | inl e ↦ rw e.0 refl
    | inr o2 ↦ elim o2 [ inl e ↦ (let z : last_shared r.node r.left r.right ≡ r.node = rw (e.0.2, e.1) refl in z) | inr e ↦ rw (e.4, e.5) (rw (ne_eqb e.0 e.2 e.6) refl) ]
  ]
])

-- any two paths of the tree part at some node
pub part_of : (T : Grown) → IsAccepted T → (a b : Spot) → a.kind.0 < T.types → b.kind.0 < T.types → Parting (setup_of_tree T) (path T.rows a) (path T.rows b)
part_of T g a b ha hb = parting (setup_of_tree T) (path T.rows a) (path T.rows b) (path_good (setup_of_tree T) (facts_of T g) a ha).rooted (path_good (setup_of_tree T) (facts_of T g) b hb).rooted

-- two transactions are on different sides of the node where their paths part
sides_differ : (T : Grown) (g : IsAccepted T) (a b : Spot) (ha : a.kind.0 < T.types) (hb : b.kind.0 < T.types) (r : Parting (setup_of_tree T) (path T.rows a) (path T.rows b)) (t u : ℕ) → t ≢ u
    → side_at T.rows r.node a t ≢ side_at T.rows r.node b u
unfolding side_at head_or
sides_differ T g a b ha hb r t u ne e =
    let f = facts_of T g in
    let e2 : head_or t r.left ≡ head_or u r.right = sym (next_split T g a ha r.node r.front r.left r.is_left t) ∙ e ∙ next_split T g b hb r.node r.front r.right r.is_right u in
    elim r.part [
      | inl q ↦ ne (sym (ap (head_or t) q.0) ∙ e2 ∙ ap (head_or u) q.1)
      | inr o ↦ elim o [
        | inl q ↦ no_child (setup_of_tree T) f a b r.node q.1.0 r.front q.1.1 ha hb (r.is_left ∙ ap (λ (z : List ℕ). r.front ++ r.node ∷ z) q.0)
            (r.is_right ∙ ap (λ (z : List ℕ). r.front ++ r.node ∷ z) q.1.2)
        | inr o2 ↦ elim o2 [
          | inl q ↦ no_child (setup_of_tree T) f b a r.node q.0.0 r.front q.0.1 hb ha (r.is_right ∙ ap (λ (z : List ℕ). r.front ++ r.node ∷ z) q.1)
              (r.is_left ∙ ap (λ (z : List ℕ). r.front ++ r.node ∷ z) q.0.2)
          | inr q ↦ q.6 (sym (ap (head_or t) q.4) ∙ e2 ∙ ap (head_or u) q.5)
        ]
      ]
    ]

among_middle : (n : ℕ) (xs ls : List ℕ) → among n (xs ++ n ∷ ls) ≡ true
among_middle n xs ls = among-append_right n xs (n ∷ ls) (or_left (eqb n n) (among n ls) (eq-eqb n n refl))

on_at : (T : List NodeRow) (s : Spot) (n : ℕ) (xs ls : List ℕ) → path T s ≡ xs ++ n ∷ ls → on_path T n s ≡ true
unfolding on_path
on_at T s n xs ls e = rw e (among_middle n xs ls)

-- the parting node is the lowest node on both paths
pub lowest_of : (T : Grown) (g : IsAccepted T) (a b : Spot) → a.kind.0 < T.types → b.kind.0 < T.types → (r : Parting (setup_of_tree T) (path T.rows a) (path T.rows b)) → IsLowest T.rows a b r.node
lowest_of T g a b ha hb r =
    let f = facts_of T g in
    let on_a = on_at T.rows a r.node r.front r.left r.is_left in
    let on_b = on_at T.rows b r.node r.front r.right r.is_right in
    record {
      on_first = on_a;
      on_second = on_b;
      lowest = λ m i j. elim (comparable (setup_of_tree T) f a m r.node ha i on_a) [
        | inl e ↦ rw (e, way_front (setup_of_tree T) f r.node) (among_middle r.node (front_of (setup_of_tree T) f r.node) [])
        | inr o ↦ elim o [
          | inl k ↦ rw (way_front (setup_of_tree T) f r.node) (among-append_left m (front_of (setup_of_tree T) f r.node) (r.node ∷ []) k)
          | inr k ↦ absurd (sides_differ T g a b ha hb r 0 1 (λ e. absurd (cc)) ((above_kinds (setup_of_tree T) f m r.node a b ha hb i j k).1 0 1))
        ]
      ];
    }

find_first : (p : ℕ → Bool) (n : ℕ) (xs ls : List ℕ) → ((m : ℕ) → among m xs ≡ true → p m ≡ false) → p n ≡ true → find p (xs ++ n ∷ ls) ≡ Some n
find_first p n [] ls f h = rw h refl
find_first p n (x ∷ xs) ls f h = rw (f x (or_left (eqb x x) (among x xs) (eq-eqb x x refl))) (find_first p n xs ls (λ m i. f m (or_right (eqb x m) (among m xs) i)) h)

-- the same for any setup with this tree
of_tree : (T : Grown) (g : IsAccepted T) (a b : Spot) → a.kind.0 < T.types → b.kind.0 < T.types → (r : Parting (setup_of_tree T) (path T.rows a) (path T.rows b))
    → (S : Setup) (H : List Event) (t u : ℕ) → S.tree ≡ T.rows → spot_of H t ≡ a → spot_of H u ≡ b → t ≢ u → find (λ n. meets S H n t u) (path S.tree (spot_of H t)) ≡ Some r.node
unfolding on side on_path side_at
of_tree T g a b ha hb r S H t u tree st su ne =
    let ea : path S.tree (spot_of H t) ≡ path T.rows a = ap (λ (z : List NodeRow). path z (spot_of H t)) tree ∙ ap (path T.rows) st in
    let eb : path S.tree (spot_of H u) ≡ path T.rows b = ap (λ (z : List NodeRow). path z (spot_of H u)) tree ∙ ap (path T.rows) su in
    let fa : path S.tree (spot_of H t) ≡ r.front ++ r.node ∷ r.left = ea ∙ r.is_left in
    let fb : path S.tree (spot_of H u) ≡ r.front ++ r.node ∷ r.right = eb ∙ r.is_right in
    rw fa (find_first (λ n. meets S H n t u) r.node r.front r.left
    (λ m i. false_from_ne_true _ (λ h. (meets_parts S H m t u h).2 (ap (next_of m t) fa ∙ next_front m t u r.node r.front r.left r.right i ∙ ap (next_of m u) (sym fb))))
    (meets_from S H r.node t u (ap (among r.node) fa ∙ among_middle r.node r.front r.left) (ap (among r.node) fb ∙ among_middle r.node r.front r.right)
    (λ e. sides_differ T g a b ha hb r t u ne (ap (next_of r.node t) (sym ea) ∙ e ∙ ap (next_of r.node u) eb))))

-- two different transactions with these spots meet at the parting node
pub meet_of : (T : Grown) (g : IsAccepted T) (a b : Spot) → a.kind.0 < T.types → b.kind.0 < T.types → (r : Parting (setup_of_tree T) (path T.rows a) (path T.rows b)) → IsMeet T.rows a b r.node
unfolding meet
meet_of T g a b ha hb r S H t u tree st su ne = ap (λ (o : Option ℕ). unwrap_or o 255) (of_tree T g a b ha hb r S H t u tree st su ne)

-- the result of a walk down two paths
pub record Found (T : Grown) (a b : Spot) (n : ℕ) : Type 0 where
  pub lowest : IsLowest T.rows a b n
  pub meet : IsMeet T.rows a b n
  pub within : n < length T.rows

pub found : (T : Grown) (g : IsAccepted T) (a b : Spot) → a.kind.0 < T.types → b.kind.0 < T.types → (xs ys : List ℕ) (above n : ℕ) → xs ≡ path T.rows a → ys ≡ path T.rows b
    → n ≡ last_shared above xs ys → Found T a b n
unfolding on_path
found T g a b ha hb xs ys above n ex ey e =
    let r = part_of T g a b ha hb in
    let z : r.node ≡ n = sym (e ∙ ap (λ (z : List ℕ). last_shared above z ys) ex ∙ ap (last_shared above (path T.rows a)) ey ∙ parts_at (setup_of_tree T) above (path T.rows a) (path T.rows b) r) in
    let l = lowest_of T g a b ha hb r in
    subst (Found T a b) z (record { lowest = l; meet = meet_of T g a b ha hb r; within = path_within T g a ha r.node l.on_first })
