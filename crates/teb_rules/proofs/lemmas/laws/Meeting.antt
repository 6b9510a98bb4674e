-- Two transactions that have begun meet at some node.
use Rattle.teb_rules.specs.declared.names.Spot.{Spot}
use Rattle.std.proofs.Common.{◌≡◌, ◌≢◌, ◌⊎◌, ℕ, zero, suc, ◌<◌, ◌≤◌, true, eqb, List, [], ◌∷◌, ◌++◌, Option, Some, None, refl}
use Rattle.std.proofs.Common.{sym, ◌∙◌, ap, subst, subst₂, inl, inr, arith, length, le_refl, eq-eqb, ne_eqb, append_assoc}
use Rattle.std.proofs.lemmas.Bool.{both_ways, cases_eq, or_left}
use Rattle.teb_rules.specs.declared.history.Event.{Event}
use Rattle.teb_rules.specs.history.Phases.{spot_of}
use Rattle.teb_rules.specs.history.Phases.{began_at}
use Rattle.teb_rules.specs.laws.Lawful.{Lawful}
use Rattle.teb_rules.specs.laws.TreeFacts.{TreeFacts}
use Rattle.teb_rules.specs.Serializes.{In, Pairs}
use Rattle.teb_rules.specs.Setup.{Setup, among}
use Rattle.teb_rules.specs.Tree.{row, on, side, on_path, side_at, meets, path, leaf, climb, next_of, way}
use Rattle.teb_rules.proofs.lemmas.laws.Lists.{Pairs-across}
use Rattle.teb_rules.proofs.lemmas.laws.Paths.{among-append_right}
use Rattle.teb_rules.proofs.lemmas.laws.Timeline.{kind-lt}
use Rattle.teb_rules.proofs.lemmas.laws.Nodes.{meets_from, front_of}
use Rattle.teb_rules.proofs.lemmas.laws.Serial.{path_leaf, end_of}

-- each node of a list is the parent of the next
abbrev pub Linked : Setup → List ℕ → Type 0
Linked S [] = Unit {0}
Linked S (x ∷ []) = Unit {0}
Linked S (x ∷ y ∷ ys) = ((row S.tree y).parent ≡ Some x) × Linked S (y ∷ ys)

-- the list begins at node 0
abbrev pub Rooted : List ℕ → Type 0
Rooted [] = ⊥
Rooted (x ∷ xs) = x ≡ 0

pub record Good (S : Setup) (xs : List ℕ) : Type 0 where
  pub linked : Linked S xs
  pub rising : Pairs (λ a b. a < b) xs
  pub rooted : Rooted xs

climb_good : (S : Setup) → TreeFacts S → (d n : ℕ) (l : List ℕ) → n ≤ d → n < length S.tree → Linked S (n ∷ l) → Pairs (λ a b. a < b) (n ∷ l) → Good S (climb S.tree d n l)
unfolding climb
climb_good S a zero n l h t k r = record { linked = k; rising = r; rooted = omega arith }
climb_good S a (suc d) n l h t k r = go (row S.tree n).parent refl (λ p. climb_good S a d p (n ∷ l))
  where
    go : (o : Option ℕ) → (row S.tree n).parent ≡ o → ((p : ℕ) → p ≤ d → p < length S.tree → Linked S (p ∷ n ∷ l) → Pairs (λ a b. a < b) (p ∷ n ∷ l) → Good S (climb S.tree d p (n ∷ l))) →
        Good S (elim o as (λ z. List ℕ) [ None ↦ n ∷ l | Some p ↦ climb S.tree d p (n ∷ l) ])
    go None e ih = record { linked = k; rising = r; rooted = a.rooted n t e }
    go (Some p) e ih = let lt : p < n = a.parents n p e in
        ih p (omega arith) (omega arith) (e, k) ((λ u i. elim i [ inl q ↦ (let z : p < u = omega arith in z) | inr j ↦ (let y = r.0 u j in let z : p < u = omega arith in z) ]), r)

pub path_good : (S : Setup) (a : TreeFacts S) (k : Spot) → k.kind.0 < S.types → Good S (path S.tree k)
unfolding path way
path_good S a k h = let l = (a.housed k h).0 in climb_good S a (leaf S.tree k) (leaf S.tree k) [] (le_refl _) l tt ((λ u i. absurd i), tt)

unfoldable pub head_or : ℕ → List ℕ → ℕ
head_or o [] = o
head_or o (x ∷ xs) = x

pub next_at : (n o : ℕ) (xs ls : List ℕ) → ((x : ℕ) → In x xs → x < n) → next_of n o (xs ++ n ∷ ls) ≡ head_or o ls
unfolding next_of head_or
next_at n o [] [] f = refl
next_at n o [] (l ∷ ls) f = rw (eq-eqb n n refl) refl
next_at n o (x ∷ []) ls f = let z = f x (inl refl) in let y : x ≢ n = omega arith in rw (ne_eqb x n y) (next_at n o [] ls (λ u i. absurd i))
next_at n o (x ∷ y ∷ xs) ls f = let z = f x (inl refl) in let w : x ≢ n = omega arith in rw (ne_eqb x n w) (next_at n o (y ∷ xs) ls (λ u i. f u (inr i)))

linked_next : (S : Setup) (n m : ℕ) (xs ls : List ℕ) → Linked S (xs ++ n ∷ m ∷ ls) → (row S.tree m).parent ≡ Some n
linked_next S n m [] ls k = k.0
linked_next S n m (x ∷ []) ls k = k.1.0
linked_next S n m (x ∷ y ∷ xs) ls k = linked_next S n m (y ∷ xs) ls k.1

pub end_is : (n : ℕ) (xs : List ℕ) → end_of (xs ++ n ∷ []) ≡ n
unfolding end_of
end_is n [] = refl
end_is n (x ∷ []) = refl
end_is n (x ∷ y ∷ xs) = end_is n (y ∷ xs)

-- the node at which two paths part
pub record Parting (S : Setup) (p q : List ℕ) : Type 0 where
  pub node : ℕ
  pub front : List ℕ
  pub left : List ℕ
  pub right : List ℕ
  pub is_left : p ≡ front ++ node ∷ left
  pub is_right : q ≡ front ++ node ∷ right
  pub part : ((left ≡ []) × (right ≡ [])) ⊎ (((left ≡ []) × ((m : ℕ) × (ms : List ℕ) × (right ≡ m ∷ ms))) ⊎ ((((m : ℕ) × (ms : List ℕ) × (left ≡ m ∷ ms)) × (right ≡ [])) ⊎
      ((m : ℕ) × (ms : List ℕ) × (l : ℕ) × (ls : List ℕ) × (left ≡ m ∷ ms) × (right ≡ l ∷ ls) × (m ≢ l))))

part_of : (S : Setup) (n : ℕ) (xs ls ms : List ℕ) → Parting S (xs ++ n ∷ ls) (xs ++ n ∷ ms)
part_of S n xs [] [] = record { node = n; front = xs; left = []; right = []; is_left = refl; is_right = refl; part = inl (refl, refl) }
part_of S n xs [] (m ∷ ms) = record { node = n; front = xs; left = []; right = m ∷ ms; is_left = refl; is_right = refl; part = inr (inl (refl, (m, ms, refl))) }
part_of S n xs (l ∷ ls) [] = record { node = n; front = xs; left = l ∷ ls; right = []; is_left = refl; is_right = refl; part = inr (inr (inl ((l, ls, refl), refl))) }
part_of S n xs (l ∷ ls) (m ∷ ms) = elim (cases_eq l m) [
  | inl e ↦ subst₂ (λ (p q : List ℕ). Parting S p q) (append_assoc xs (n ∷ []) (l ∷ ls)) (append_assoc xs (n ∷ []) (l ∷ ms) ∙ ap (λ (z : ℕ). xs ++ n ∷ z ∷ ms) e) (part_of S l (xs ++ n ∷ []) ls ms)
  | inr ne ↦ record { node = n; front = xs; left = l ∷ ls; right = m ∷ ms; is_left = refl; is_right = refl; part = inr (inr (inr (l, ls, m, ms, refl, refl, ne))) }
]

pub parting : (S : Setup) (p q : List ℕ) → Rooted p → Rooted q → Parting S p q
parting S [] q h k = absurd h
parting S (x ∷ xs) [] h k = absurd k
parting S (x ∷ xs) (y ∷ ys) h k = subst₂ (λ (m n : ℕ). Parting S (m ∷ xs) (n ∷ ys)) (sym h) (sym k) (part_of S 0 [] xs ys)

pub record Meeting (S : Setup) (H : List Event) (t u : ℕ) : Type 0 where
  pub node : ℕ
  pub meet : meets S H node t u ≡ true

pub no_child : (S : Setup) (a : TreeFacts S) (k l : Spot) (n m : ℕ) (xs ms : List ℕ) → k.kind.0 < S.types → l.kind.0 < S.types → path S.tree k ≡ xs ++ n ∷ [] → path S.tree l ≡ xs ++ n ∷ m ∷ ms → ⊥
no_child S a k l n m xs ms hk hl p q =
    let e : leaf S.tree k ≡ n = sym (end_is (leaf S.tree k) (front_of S a (leaf S.tree k))) ∙ ap end_of (sym (path_leaf S a k hk) ∙ p) ∙ end_is n xs in
    let c = a.leaves m n (linked_next S n m xs ms (subst (λ (z : List ℕ). Linked S z) q (path_good S a l hl).linked)) in
    let t = (a.housed k hk).1 in
    absurd (both_ways _ (ap (among k.kind.0) (ap (λ (z : ℕ). (row S.tree z).types) e ∙ c)) t)

pub rising_front : (xs : List ℕ) (n : ℕ) (ls : List ℕ) → Pairs (λ a b. a < b) (xs ++ n ∷ ls) → (x : ℕ) → In x xs → x < n
rising_front xs n ls h x i = Pairs-across (λ a b. a < b) xs (n ∷ ls) x n h i (inl refl)

pub meets_exists : (S : Setup) (a : TreeFacts S) (H : List Event) (t u : ℕ) → Lawful S H → began_at H t < length H → began_at H u < length H → t ≢ u → Meeting S H t u
unfolding head_or
meets_exists S a H t u l bt bu ne =
    let k = spot_of H t in
    let j = spot_of H u in
    let hk = kind-lt S H t l bt in
    let hj = kind-lt S H u l bu in
    let g = path_good S a k hk in
    let f = path_good S a j hj in
    let r = parting S (path S.tree k) (path S.tree j) g.rooted f.rooted in
    let gr = rising_front r.front r.node r.left (subst (λ (z : List ℕ). Pairs (λ a b. a < b) z) r.is_left g.rising) in
    let st : side_at S.tree r.node k t ≡ head_or t r.left = side_is k t r.front r.node r.left r.is_left gr in
    let su : side_at S.tree r.node j u ≡ head_or u r.right = side_is j u r.front r.node r.right r.is_right gr in
    record {
      node = r.node;
      meet = meets_from S H r.node t u (on_is t r.front r.node r.left r.is_left) (on_is u r.front r.node r.right r.is_right)
          (λ e. let e2 : head_or t r.left ≡ head_or u r.right = sym st ∙ side_eq r.node e ∙ su in
          elim r.part [
            | inl q ↦ ne (sym (ap (head_or t) q.0) ∙ e2 ∙ ap (head_or u) q.1)
            | inr o ↦ elim o [
              | inl q ↦ no_child S a k j r.node q.1.0 r.front q.1.1 hk hj (r.is_left ∙ ap (λ (z : List ℕ). r.front ++ r.node ∷ z) q.0) (r.is_right ∙ ap (λ (z : List ℕ). r.front ++ r.node ∷ z) q.1.2)
              | inr o2 ↦ elim o2 [
                | inl q ↦ no_child S a j k r.node q.0.0 r.front q.0.1 hj hk (r.is_right ∙ ap (λ (z : List ℕ). r.front ++ r.node ∷ z) q.1) (r.is_left ∙ ap (λ (z : List ℕ). r.front ++ r.node ∷ z) q.0.2)
                | inr q ↦ q.6 (sym (ap (head_or t) q.4) ∙ e2 ∙ ap (head_or u) q.5)
              ]
            ]
          ]);
    }
  where
    side_is : (k : Spot) (o : ℕ) (xs : List ℕ) (n : ℕ) (ls : List ℕ) → path S.tree k ≡ xs ++ n ∷ ls → ((x : ℕ) → In x xs → x < n) → side_at S.tree n k o ≡ head_or o ls
    side_is k o xs n ls e f = unfold side_at in rw e (next_at n o xs ls f)

    on_is : (t : ℕ) (xs : List ℕ) (n : ℕ) (ls : List ℕ) → path S.tree (spot_of H t) ≡ xs ++ n ∷ ls → on S H n t ≡ true
    on_is t xs n ls e = unfold on on_path in rw e (among-append_right n xs (n ∷ ls) (or_left (eqb n n) (among n ls) (eq-eqb n n refl)))

    side_eq : (n : ℕ) → side S H n t ≡ side S H n u → side_at S.tree n (spot_of H t) t ≡ side_at S.tree n (spot_of H u) u
    side_eq n e = unfold side in e
