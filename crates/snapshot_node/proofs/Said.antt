-- The answers of a snapshot node.
use Rattle.std.proofs.Common.{◌≡◌, ℕ, Bool, true, false, cond, not, ◌&&◌, eqb, ltb, List, find, Option, Some, None, refl, sym, ◌∙◌, ap}
use Rattle.std.proofs.lemmas.Bool.{eq-eqb, ne_eqb}
use Rattle.teb_rules.specs.declared.names.Cell.{Cell}
use Rattle.teb_rules.specs.declared.names.Txn.{Txn}
use Rattle.teb_rules.specs.declared.names.Spot.{Spot}
use Rattle.teb_rules.specs.declared.names.ControlKind.TheVariants.{Snapshot}
use Rattle.teb_rules.specs.declared.history.Event.{Event}
use Rattle.teb_rules.specs.history.Phases.{txns, unfinished}
use Rattle.teb_rules.specs.history.Accesses.{put_at, wrote}
use Rattle.teb_rules.specs.history.Written.{txn_of}
use Rattle.teb_rules.proofs.lemmas.history.LeastNumbers.{nobody}
use Rattle.teb_rules.specs.Setup.{Setup}
use Rattle.teb_rules.specs.Tree.{row, leaf, meets, has_batches, side_at}
use Rattle.teb_rules.specs.Batches.{start, close}
use Rattle.teb_rules.specs.Versions.{sees_by, orders}
use Rattle.teb_rules.specs.Verdicts.{wait_for, break_for, or_else}
use Rattle.teb_rules.specs.declared.Verdict.TheVariants.{Go, Break}
use Rattle.teb_rules.specs.declared.Broken.TheVariants.{First}
use Rattle.teb_rules.specs.Controls.{on_access, gate, is_first}
use Rattle.teb_rules.specs.Stops.{on_begin}
use Rattle.batch_book.specs.Histories.{full_at}
use Rattle.batch_book.proofs.Telling.{begin_waits}
use Rattle.access_conflicts.specs.Waits.{some_txn, wait_for_txn}

waits : (o : Option ℕ) → wait_for_txn (some_txn o) ≡ wait_for o
waits None = refl
waits (Some u) = refl

pub snapshot_read : (S : Setup) (H : List Event) (n t : ℕ) (x : Cell) → (row S.tree n).control ≡ Snapshot → Go ≡ on_access (row S.tree n).control S H n t x false
unfolding on_access
snapshot_read S H n t x e = rw e refl

pub snapshot_gate : (S : Setup) (H : List Event) (n t : ℕ) → (row S.tree n).control ≡ Snapshot → Go ≡ wait_for (find (gate (row S.tree n).control S H n t) (txns H))
unfolding gate
snapshot_gate S H n t e = rw (e, nobody (txns H)) refl

pub snapshot_sees : (S : Setup) (H : List Event) (n t w : ℕ) (x : Cell) → (row S.tree n).control ≡ Snapshot → ltb (close S H n w) (start S H n t) ≡ sees_by (row S.tree n).control S H n x t w
unfolding sees_by
snapshot_sees S H n t w x e = rw e refl

pub snapshot_orders : (S : Setup) (H : List Event) (n u w : ℕ) (x : Cell) → (row S.tree n).control ≡ Snapshot → ltb (put_at H u x) (put_at H w x) ≡ orders S H n x u w
unfolding orders
snapshot_orders S H n u w x e = rw e refl

-- a Begin goes on at the leaf; above it, if the batch is full, it waits for the transaction that is found
pub snapshot_start_leaf : (S : Setup) (H : List Event) (s : Spot) (n : ℕ) → n ≡ leaf S.tree s → Go ≡ on_begin S H s n
snapshot_start_leaf S H s n e = sym (begin_waits S H s n ∙ go (has_batches S.tree n))
  where
    go : (b : Bool) → cond (b && not (eqb n (leaf S.tree s))) (wait_for (full_at S H n (side_at S.tree n s 0) (row S.tree n).batch)) Go ≡ Go
    go true = rw (eq-eqb n (leaf S.tree s) e) refl
    go false = refl

pub snapshot_start : (S : Setup) (H : List Event) (s : Spot) (n side size : ℕ) → (row S.tree n).control ≡ Snapshot → (n ≡ leaf S.tree s → ⊥) → side ≡ side_at S.tree n s 0 → size ≡ (row S.tree n).batch
    → wait_for_txn (txn_of (full_at S H n side size)) ≡ on_begin S H s n
snapshot_start S H s n side size k inner a b =
    (λ j. waited (full_at S H n (a j) (b j)) j)
    ∙ sym (begin_waits S H s n ∙ rw (k, ne_eqb n (leaf S.tree s) inner) refl)
  where
    waited : (o : Option ℕ) → wait_for_txn (txn_of o) ≡ wait_for o
    waited None = refl
    waited (Some u) = refl

-- the answer to a write
pub snapshot_first : (S : Setup) (H : List Event) (n t : ℕ) (x : Cell) (u : Txn) → (row S.tree n).control ≡ Snapshot → Some u ≡ some_txn (find (is_first S H n t x) (txns H))
    → Break (First u x) ≡ on_access (row S.tree n).control S H n t x true
unfolding on_access
snapshot_first S H n t x u k h = rw k (go (find (is_first S H n t x) (txns H)) h)
  where
    go : (o : Option ℕ) → Some u ≡ some_txn o → Break (First u x) ≡ or_else (break_for o (λ u. First (record { 0 = u }) x))
        (wait_for (find (λ u. unfinished H u && meets S H n t u && wrote H u x) (txns H)))
    go (Some w) h = let e : u ≡ (let v : Txn = record { 0 = w } in v) = cc in ap (λ (v : Txn). Break (First v x)) e
    go None h = absurd (cc)

pub snapshot_write : (S : Setup) (H : List Event) (n t : ℕ) (x : Cell) (o : Option Txn) → (row S.tree n).control ≡ Snapshot → None ≡ some_txn (find (is_first S H n t x) (txns H))
    → o ≡ some_txn (find (λ u. unfinished H u && meets S H n t u && wrote H u x) (txns H))
    → wait_for_txn o ≡ on_access (row S.tree n).control S H n t x true
unfolding on_access
snapshot_write S H n t x o k h w = rw k (ap wait_for_txn w ∙ waits _ ∙ go (find (is_first S H n t x) (txns H)) h)
  where
    go : (p : Option ℕ) → None ≡ some_txn p → wait_for (find (λ u. unfinished H u && meets S H n t u && wrote H u x) (txns H))
        ≡ or_else (break_for p (λ u. First (record { 0 = u }) x)) (wait_for (find (λ u. unfinished H u && meets S H n t u && wrote H u x) (txns H)))
    go (Some v) h = absurd (cc)
    go None h = refl
