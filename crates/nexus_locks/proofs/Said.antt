-- The verdicts of a locks node.
use Rattle.std.proofs.Common.{◌≡◌, ℕ, Bool, ltb, List, find, Option, Some, None, refl, ◌∙◌}
use Rattle.teb_rules.specs.declared.names.Cell.{Cell}
use Rattle.teb_rules.specs.declared.names.Spot.{Spot}
use Rattle.teb_rules.specs.declared.names.ControlKind.TheVariants.{Locks}
use Rattle.teb_rules.specs.declared.history.Event.{Event}
use Rattle.teb_rules.specs.history.Phases.{txns, committed}
use Rattle.teb_rules.specs.history.Accesses.{put_at}
use Rattle.teb_rules.proofs.lemmas.history.LeastNumbers.{nobody}
use Rattle.teb_rules.specs.Setup.{Setup}
use Rattle.teb_rules.specs.Tree.{row}
use Rattle.teb_rules.specs.Versions.{sees_by, orders}
use Rattle.teb_rules.specs.Verdicts.{wait_for}
use Rattle.teb_rules.specs.declared.Verdict.{Verdict}
use Rattle.teb_rules.specs.declared.Verdict.TheVariants.{Go}
use Rattle.teb_rules.specs.Controls.{blocks, on_access, validate, gate}
use Rattle.teb_rules.specs.Stops.{on_begin}
use Rattle.access_conflicts.specs.Waits.{some_txn, wait_for_txn}

-- the verdict of a locks node on an access
pub locks_access : (S : Setup) (H : List Event) (n t : ℕ) (x : Cell) (write : Bool) (v : Verdict) → (row S.tree n).control ≡ Locks
    → v ≡ wait_for_txn (some_txn (find (blocks S H n t x write) (txns H))) → v ≡ on_access (row S.tree n).control S H n t x write
unfolding on_access
locks_access S H n t x write v e h = rw e (h ∙ waits (find (blocks S H n t x write) (txns H)))
  where
    waits : (o : Option ℕ) → wait_for_txn (some_txn o) ≡ wait_for o
    waits None = refl
    waits (Some u) = refl

pub locks_start : (S : Setup) (H : List Event) (s : Spot) (n : ℕ) → (row S.tree n).control ≡ Locks → Go ≡ on_begin S H s n
unfolding on_begin
locks_start S H s n e = rw e refl

pub locks_validate : (S : Setup) (H : List Event) (n t : ℕ) → (row S.tree n).control ≡ Locks → Go ≡ validate (row S.tree n).control S H n t
unfolding validate
locks_validate S H n t e = rw e refl

pub locks_gate : (S : Setup) (H : List Event) (n t : ℕ) → (row S.tree n).control ≡ Locks → Go ≡ wait_for (find (gate (row S.tree n).control S H n t) (txns H))
unfolding gate
locks_gate S H n t e = rw (e, nobody (txns H)) refl

pub locks_sees : (S : Setup) (H : List Event) (n t w : ℕ) (x : Cell) → (row S.tree n).control ≡ Locks → committed H w ≡ sees_by (row S.tree n).control S H n x t w
unfolding sees_by
locks_sees S H n t w x e = rw e refl

pub locks_orders : (S : Setup) (H : List Event) (n u w : ℕ) (x : Cell) → (row S.tree n).control ≡ Locks → ltb (put_at H u x) (put_at H w x) ≡ orders S H n x u w
unfolding orders
locks_orders S H n u w x e = rw e refl
