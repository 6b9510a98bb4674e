-- The transaction that a write meets, found among the writers of the cell.
use Rattle.std.proofs.Common.{◌≡◌, ℕ, Bool, true, false, not, ◌&&◌, ltb, List, find, refl, ◌∙◌}
use Rattle.std.proofs.lemmas.Bool.{and_parts, and_from, or_left, or_right}
use Rattle.teb_rules.specs.declared.names.Cell.{Cell}
use Rattle.teb_rules.proofs.lemmas.names.Bools.{and_true}
use Rattle.teb_rules.specs.declared.history.Event.{Event}
use Rattle.teb_rules.specs.history.Phases.{txns, committed, unfinished}
use Rattle.teb_rules.specs.history.Accesses.{wrote}
use Rattle.teb_rules.specs.Setup.{Setup}
use Rattle.teb_rules.specs.Tree.{meets}
use Rattle.teb_rules.specs.Batches.{start, close}
use Rattle.teb_rules.specs.Controls.{is_first}
use Rattle.teb_rules.proofs.lemmas.laws.Nodes.{meets_parts}
use Rattle.access_conflicts.specs.Waits.{some_txn}
use Rattle.snapshot_node.specs.Asking.{comes_first, is_met}
use Rattle.snapshot_node.specs.Standing.{has_put_in, writers_in}
use Rattle.snapshot_node.proofs.Listed.{puts_parts, finds, as_txn}

pub first_found : (S : Setup) (H : List Event) (n t : ℕ) (x : Cell) → find (comes_first S H n t) (writers_in S H n x) ≡ some_txn (find (is_first S H n t x) (txns H))
unfolding is_first
first_found S H n t x = finds (has_put_in S H n x) H (is_first S H n t x) (comes_first S H n t) only same
  where
    only : (u : ℕ) → is_first S H n t x u ≡ true → has_put_in S H n x u ≡ true
    only u h =
        let p = and_parts ((meets S H n t u && committed H u) && wrote H u x) (not (ltb (close S H n u) (start S H n t))) h in
        let q = and_parts (meets S H n t u && committed H u) (wrote H u x) p.0 in
        let r = and_parts (meets S H n t u) (committed H u) q.0 in
        and_from _ _ (and_from _ _ (meets_parts S H n t u r.0).1 (or_right (unfinished H u) _ r.1)) q.1

    turned : (m c z : Bool) → (((m && c) && true) && z) ≡ ((c && z) && m)
    turned true true true = refl
    turned true true false = refl
    turned true false z = refl
    turned false true true = refl
    turned false true false = refl
    turned false false z = refl

    same : (u : ℕ) → has_put_in S H n x u ≡ true → is_first S H n t x u ≡ comes_first S H n t (as_txn u)
    same u h =
        let p = puts_parts S H n x u h in
        (λ j. ((meets S H n t u && committed H u) && p.2 j) && not (ltb (close S H n u) (start S H n t))) ∙ turned (meets S H n t u) (committed H u) (not (ltb (close S H n u) (start S H n t)))

pub met_found : (S : Setup) (H : List Event) (n t : ℕ) (x : Cell) → find (is_met S H n t) (writers_in S H n x) ≡ some_txn (find (λ u. unfinished H u && meets S H n t u && wrote H u x) (txns H))
met_found S H n t x = finds (has_put_in S H n x) H (λ u. unfinished H u && meets S H n t u && wrote H u x) (is_met S H n t) only same
  where
    only : (u : ℕ) → (unfinished H u && meets S H n t u && wrote H u x) ≡ true → has_put_in S H n x u ≡ true
    only u h =
        let p = and_parts (unfinished H u && meets S H n t u) (wrote H u x) h in
        let q = and_parts (unfinished H u) (meets S H n t u) p.0 in
        and_from _ _ (and_from _ _ (meets_parts S H n t u q.1).1 (or_left (unfinished H u) _ q.0)) p.1

    same : (u : ℕ) → has_put_in S H n x u ≡ true → (unfinished H u && meets S H n t u && wrote H u x) ≡ is_met S H n t (as_txn u)
    same u h =
        let p = puts_parts S H n x u h in
        (λ j. (unfinished H u && meets S H n t u) && p.2 j) ∙ and_true (unfinished H u && meets S H n t u)
