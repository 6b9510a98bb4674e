-- The leaves of a type, and the paths to them.
use Rattle.std.proofs.Common.{◌≡◌, ℕ, suc, ◌+◌, ◌<◌, Bool, true, false, cond, not, ◌&&◌, ◌||◌, eqb, List, [], ◌∷◌, ◌++◌}
use Rattle.std.proofs.Common.{length, find, Option, Some, None, unwrap_or, refl, sym, ◌∙◌, ap, subst, arith, eq-eqb, IsTrue}
use Rattle.std.specs.Prelude.{IfSome}
use Rattle.std.proofs.lemmas.Bool.{and_parts, and_from, false≢true}
use Rattle.std.proofs.lemmas.List.Folds.{list_all-append}
use Rattle.std.specs.List.{list_all}
use Rattle.teb_rules.specs.declared.names.Node.{Node}
use Rattle.teb_rules.specs.declared.names.Spot.{Spot}
use Rattle.teb_rules.specs.Setup.{NodeRow, among}
use Rattle.teb_rules.specs.Tree.{below, has_batches, houses, leaf, path, row, way}
use Rattle.teb_rules.specs.laws.Laws.{OfEveryStore}
use Rattle.guarantees.specs.Reading.{ReadsGoOn}
use Rattle.store_setup.specs.tree.Grown.{Grown, parent_number, row_of}
use Rattle.store_setup.specs.tree.Sound.{IsAccepted}
use Rattle.store_setup.specs.declared.tree.rows.NodeRow.{NodeRow as Row}
use Rattle.store_setup.proofs.lemmas.tree.Below.{any_found}
use Rattle.tree_guarantees.specs.Conditions.{Guarantees, ServesReads, has_batches_for, spot, type_has_batches, way_has_batches}
use Rattle.tree_guarantees.proofs.Members.{all_have}
use Rattle.tree_guarantees.proofs.Paths.{reads_are_served}

-- the parent of a row of the tree, as a number
pub parent_is : (T : List NodeRow) (n : ℕ) (r : Row) → row_of r ≡ row T n → parent_number r.parent ≡ (row T n).parent
parent_is T n r e = ap (λ (q : NodeRow). q.parent) e

pub parent_within : (T : Grown) (n : ℕ) (r : Row) → IsAccepted T → n < length T.rows → row_of r ≡ row T.rows n → IfSome r.parent (λ (p : Node). p.0 < length T.rows)
parent_within T n r accepted low e = go r.parent (parent_is T.rows n r e)
  where
    go : (o : Option Node) → parent_number o ≡ (row T.rows n).parent → IfSome o (λ (p : Node). p.0 < length T.rows)
    go None e = tt
    go (Some p) e = omega (arith, low, accepted.parents n p.0 (sym e))

-- a test of all numbers below a bound
pub all_zero : (p : ℕ → Bool) → list_all p (below 0) ≡ true
unfolding below
all_zero p = refl

pub all_more : (p : ℕ → Bool) (n : ℕ) → list_all p (below n) ≡ true → p n ≡ true → list_all p (below (n + 1)) ≡ true
unfolding below
all_more p n h e =
    ap (λ (z : ℕ). list_all p (below z)) (let z : n + 1 ≡ suc n = omega arith in z) ∙ list_all-append p (below n) (n ∷ []) ∙ ap (λ (b : Bool). b && (p n && true)) h ∙ ap (λ (b : Bool). b && true) e

pub all_here : (p : ℕ → Bool) (n m : ℕ) → n ≡ m → list_all p (below n) ≡ true → true ≡ list_all p (below m)
all_here p n m e h = subst (λ (k : ℕ). true ≡ list_all p (below k)) e (sym h)

among_below : (n m : ℕ) → n < m → among n (below m) ≡ true
among_below n m low = any_found (λ k. eqb k n) n m low (eq-eqb n n refl)

pub one_missing : (p : ℕ → Bool) (n m : ℕ) → n < m → p n ≡ false → false ≡ list_all p (below m)
one_missing p n m low e = go (list_all p (below m)) refl
  where
    go : (b : Bool) → list_all p (below m) ≡ b → false ≡ list_all p (below m)
    go false h = sym h
    go true h = absurd (false≢true (sym e ∙ all_have p (below m) n h (among_below n m low)))

-- the way to the leaf of an instance is that to one of the leaves of the type, or to the root
found : (T : List NodeRow) (k i : ℕ) (ns : List ℕ) → way_has_batches T 0 ≡ true → list_all (has_batches_for T k) ns ≡ true
    → way_has_batches T (unwrap_or (find (λ n. houses (row T n) (spot k i)) ns) 0) ≡ true
found T k i [] root all = root
found T k i (n ∷ ns) root all =
    let parts = and_parts (has_batches_for T k n) (list_all (has_batches_for T k) ns) all in
    go (houses (row T n) (spot k i)) refl parts.0 (found T k i ns root parts.1)
  where
    here : houses (row T n) (spot k i) ≡ true → has_batches_for T k n ≡ true → way_has_batches T n ≡ true
    here h b = let of_type = (and_parts (among k (row T n).types) _ h).0 in subst (λ (a : Bool). (not a || way_has_batches T n) ≡ true) of_type b

    go : (b : Bool) → houses (row T n) (spot k i) ≡ b → has_batches_for T k n ≡ true → way_has_batches T (unwrap_or (find (λ n. houses (row T n) (spot k i)) ns) 0) ≡ true
        → way_has_batches T (unwrap_or (cond b (Some n) (find (λ n. houses (row T n) (spot k i)) ns)) 0) ≡ true
    go true h b rest = here h b
    go false h b rest = rest

path_has_batches : (T : List NodeRow) (k i : ℕ) → type_has_batches T k ≡ true → list_all (has_batches T) (path T (spot k i)) ≡ true
unfolding path leaf
path_has_batches T k i h =
    let parts = and_parts (way_has_batches T 0) (list_all (has_batches_for T k) (below (length T))) h in
    found T k i (below (length T)) parts.0 parts.1

pub type_is_served : OfEveryStore ReadsGoOn → (T : List NodeRow) (k : ℕ) (r : Bool) → r ≡ type_has_batches T k → IsTrue r → (i : ℕ) → Guarantees T (ServesReads (spot k i))
type_is_served law T k r e told i = reads_are_served law T (spot k i) true (sym (path_has_batches T k i (sym e ∙ told))) refl
