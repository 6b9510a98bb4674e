-- The law of pivots: those at a snapshot node that are prepared or committed hold none.
use Rattle.std.specs.Prelude.{◌≡◌, ℕ, ◌||◌, List, IsTrue, IsFalse}
use Rattle.teb_rules.specs.declared.names.ControlKind.TheVariants.{Snapshot}
use Rattle.teb_rules.specs.declared.history.Event.{Event}
use Rattle.teb_rules.specs.history.Phases.{prepared, committed}
use Rattle.teb_rules.specs.Setup.{Setup}
use Rattle.teb_rules.specs.Tree.{row}
use Rattle.teb_rules.specs.Batches.{one_batch}
use Rattle.teb_rules.specs.Controls.{edge}

-- t is prepared or committed
abbrev pub IsSettled : List Event → ℕ → Type 0
IsSettled H t = IsTrue (prepared H t || committed H t)

-- at a snapshot node no edge of prepared or committed transactions leads into a batch that another such edge leaves
abbrev pub HoldsNoPivot : Setup → List Event → Type 0
HoldsNoPivot S H = (n a b c d : ℕ) → (row S.tree n).control ≡ Snapshot → IsSettled H a → IsSettled H b → IsSettled H c → IsSettled H d → IsTrue (edge S H n a b) → IsTrue (edge S H n c d)
    → IsFalse (one_batch S H n b c)
