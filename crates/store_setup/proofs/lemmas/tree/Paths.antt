-- Paths of an accepted tree: their nodes, and what follows a node.
use Rattle.std.proofs.Common.{◌≡◌, ◌⊎◌, ◌↔◌, ℕ, suc, ◌<◌, IfSome, Bool, true, false, cond, eqb, List, [], ◌∷◌, ◌++◌, length}
use Rattle.std.proofs.Common.{get_or, Option, Some, None, refl, sym, ◌∙◌, ap, subst, inl, inr, arith, eqb-true, eq-eqb}
use Rattle.std.specs.List.{All}
use Rattle.std.proofs.lemmas.Bool.{or_cases, or_left, or_right}
use Rattle.std.proofs.lemmas.List.Folds.{list_any_at}
use Rattle.std.proofs.lemmas.List.{get_or-map}
use Rattle.std.proofs.Math.ListN.{length-map}
use Rattle.teb_rules.specs.declared.names.Spot.{Spot}
use Rattle.teb_rules.specs.declared.names.Node.{Node}
use Rattle.teb_rules.specs.Setup.{among}
use Rattle.teb_rules.specs.Tree.{path, leaf, on_path, next_of}
use Rattle.teb_rules.proofs.lemmas.laws.Nodes.{among-cases, front_of, front-less, path_through}
use Rattle.teb_rules.proofs.lemmas.laws.Meeting.{head_or, next_at, path_good, rising_front, end_is}
use Rattle.teb_rules.proofs.lemmas.laws.Serial.{path_leaf, end_of}
use Rattle.teb_rules.specs.Serializes.{Pairs}
use Rattle.store_setup.specs.tree.Grown.{Grown, node_numbers, side_number}
use Rattle.store_setup.specs.tree.Sound.{IsAccepted}
use Rattle.store_setup.proofs.lemmas.tree.Facts.{setup_of_tree, facts_of}

-- the nodes of a path are nodes of the tree
pub path_within : (T : Grown) → IsAccepted T → (s : Spot) → s.kind.0 < T.types → (m : ℕ) → among m (path T.rows s) ≡ true → m < length T.rows
path_within T a s h m i =
    let f = facts_of T a in
    let l = (f.housed s h).0 in
    let j = subst (λ (xs : List ℕ). among m xs ≡ true) (path_leaf (setup_of_tree T) f s h) i in
    elim (among-cases m (front_of (setup_of_tree T) f (leaf T.rows s)) (leaf T.rows s ∷ []) j) [
      | inl k ↦ (let z = front-less (setup_of_tree T) f (leaf T.rows s) m k in omega arith)
      | inr k ↦ elim (or_cases (eqb (leaf T.rows s) m) false k) [ inl e ↦ (let z = eqb-true (leaf T.rows s) m e in omega arith) | inr q ↦ absurd (cc) ]
    ]

pub nodes_within : (T : Grown) → IsAccepted T → (s : Spot) → s.kind.0 < T.types → (ns : List Node) → node_numbers ns ≡ path T.rows s → All (λ n. n.0 < length T.rows) ns
nodes_within T a s h ns e = λ k d l.
    let g : get_or (node_numbers ns) k d.0 ≡ (get_or ns k d).0 = get_or-map (λ n. n.0) ns k d d.0 l in
    let z : k < length (node_numbers ns) = omega (arith, length-map ns (λ (n : Node). n.0)) in
    path_within T a s h (get_or ns k d).0 (subst (λ (xs : List ℕ). among (get_or ns k d).0 xs ≡ true) e
    (list_any_at (λ m. eqb m (get_or ns k d).0) (node_numbers ns) k d.0 z (eq-eqb _ _ g)))

-- `next_of` gives an element of the list, or `own`
next_among : (n own : ℕ) (xs : List ℕ) → (next_of n own xs ≡ own) ⊎ (among (next_of n own xs) xs ≡ true)
unfolding next_of
next_among n own [] = inl refl
next_among n own (m ∷ []) = inl refl
next_among n own (m ∷ l ∷ ls) = go (eqb m n) (next_among n own (l ∷ ls))
  where
    go : (b : Bool) → (next_of n own (l ∷ ls) ≡ own) ⊎ (among (next_of n own (l ∷ ls)) (l ∷ ls) ≡ true) →
        (cond b l (next_of n own (l ∷ ls)) ≡ own) ⊎ (among (cond b l (next_of n own (l ∷ ls))) (m ∷ l ∷ ls) ≡ true)
    go true ih = inr (or_right (eqb m l) (among l (l ∷ ls)) (or_left (eqb l l) (among l ls) (eq-eqb l l refl)))
    go false ih = elim ih [ inl e ↦ inl e | inr i ↦ inr (or_right (eqb m (next_of n own (l ∷ ls))) _ i) ]

child_within : (T : Grown) → IsAccepted T → (s : Spot) → s.kind.0 < T.types → (n m : ℕ) → ((own : ℕ) → m ≡ next_of n own (path T.rows s)) → m < length T.rows
child_within T a s h n m f =
    let e = f (suc m) in
    elim (next_among n (suc m) (path T.rows s)) [
      | inl q ↦ absurd (let z : m ≡ suc m = e ∙ q in omega arith)
      | inr i ↦ path_within T a s h m (subst (λ (z : ℕ). among z (path T.rows s) ≡ true) (sym e) i)
    ]

-- `next_of` gives the node after n on the path, or `own` if n is the last
pub next_split : (T : Grown) → IsAccepted T → (s : Spot) → s.kind.0 < T.types → (n : ℕ) (xs ls : List ℕ) → path T.rows s ≡ xs ++ n ∷ ls → (own : ℕ) → next_of n own (path T.rows s) ≡ head_or own ls
next_split T a s h n xs ls e own =
    let g = path_good (setup_of_tree T) (facts_of T a) s h in
    let r : Pairs (λ a b. a < b) (xs ++ n ∷ ls) = subst (λ (z : List ℕ). Pairs (λ a b. a < b) z) e g.rising in
    ap (next_of n own) e ∙ next_at n own xs ls (rising_front xs n ls r)

-- at the leaf, `next_of` gives `own`
pub side_leaf : (T : Grown) → IsAccepted T → (s : Spot) → s.kind.0 < T.types → (n own : ℕ) → n ≡ leaf T.rows s → next_of n own (path T.rows s) ≡ own
unfolding head_or
side_leaf T a s h n own e = ap (λ (z : ℕ). next_of z own (path T.rows s)) e ∙ next_split T a s h (leaf T.rows s) (front_of (setup_of_tree T) (facts_of T a) (leaf T.rows s)) []
    (path_leaf (setup_of_tree T) (facts_of T a) s h) own

-- only at the leaf does `next_of` always give `own`
pub leaf_side : (T : Grown) → IsAccepted T → (s : Spot) → s.kind.0 < T.types → (n : ℕ) → on_path T.rows n s ≡ true → ((own : ℕ) → next_of n own (path T.rows s) ≡ own) → n ≡ leaf T.rows s
unfolding head_or
leaf_side T a s h n on f =
    let t = facts_of T a in
    let p = path_through (setup_of_tree T) t s n h on in
    go p.0 p.1
  where
    go : (ls : List ℕ) → path T.rows s ≡ front_of (setup_of_tree T) (facts_of T a) n ++ n ∷ ls → n ≡ leaf T.rows s
    go [] e = sym (end_is n (front_of (setup_of_tree T) (facts_of T a) n)) ∙ ap end_of (sym e ∙ path_leaf (setup_of_tree T) (facts_of T a) s h)
        ∙ end_is (leaf T.rows s) (front_of (setup_of_tree T) (facts_of T a) (leaf T.rows s))
    go (l ∷ ls) e = let q : l ≡ suc l = sym (next_split T a s h n (front_of (setup_of_tree T) (facts_of T a) n) (l ∷ ls) e (suc l)) ∙ f (suc l) in absurd (omega arith)

-- `side` answers None if and only if the node is the leaf
pub none_at_leaf : (T : Grown) → IsAccepted T → (s : Spot) → s.kind.0 < T.types → (n : ℕ) → on_path T.rows n s ≡ true → (r : Option Node)
    → ((own : ℕ) → side_number r own ≡ next_of n own (path T.rows s)) → (r ≡ None) ↔ (n ≡ leaf T.rows s)
none_at_leaf T a s h n on None f = ((λ e. leaf_side T a s h n on (λ own. sym (f own))), λ e. refl)
none_at_leaf T a s h n on (Some m) f = ((λ e. absurd (cc)), λ e. absurd (let z : m.0 ≡ suc m.0 = f (suc m.0) ∙ side_leaf T a s h n (suc m.0) e in omega arith))

-- a child on the path is a node of the tree
pub side_within : (T : Grown) → IsAccepted T → (s : Spot) → s.kind.0 < T.types → (n : ℕ) (r : Option Node) → ((own : ℕ) → side_number r own ≡ next_of n own (path T.rows s))
    → IfSome r (λ m. m.0 < length T.rows)
side_within T a s h n None f = tt
side_within T a s h n (Some m) f = child_within T a s h n m.0 f
