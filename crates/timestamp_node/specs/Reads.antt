-- The reads at a node, with the writers read from.
use Rattle.std.specs.Prelude.{ℕ, Bool, cond, not, ◌&&◌, eqb, List, [], ◌∷◌, ◌++◌, filter, IsTrue}
use Rattle.teb_rules.specs.declared.names.Txn.{Txn}
use Rattle.teb_rules.specs.declared.names.Cell.{Cell}
use Rattle.teb_rules.specs.names.Cells.{same_cell}
use Rattle.teb_rules.specs.declared.history.Event.{Event}
use Rattle.teb_rules.specs.declared.history.Event.TheVariants.{Got}
use Rattle.teb_rules.specs.history.Phases.{aborted, unfinished}
use Rattle.teb_rules.specs.Setup.{Setup}
use Rattle.teb_rules.specs.Tree.{on}

-- the read is t's
abbrev pub is_by : Txn → Txn × Txn → Bool
is_by t r = eqb r.0.0 t.0

-- reader and writer read from, for each Got of x, the oldest first
unfoldable pub all_reads : List Event → Cell → List (Txn × Txn)
all_reads [] x = []
all_reads (Got t y w v ∷ P) x = let r = all_reads P x in cond (same_cell y x) (r ++ (t, w) ∷ []) r
all_reads (_ ∷ P) x = all_reads P x

-- those of readers with n on their paths that are not aborted
unfoldable pub reads : Setup → List Event → ℕ → Cell → List (Txn × Txn)
reads S H n x = filter (λ r. on S H n r.0.0 && not (aborted H r.0.0)) (all_reads H x)

-- each read was made while its reader was unfinished
unfoldable pub IsTimely : List Event → Type 0
IsTimely [] = Unit {0}
IsTimely (Got t x w v ∷ P) = IsTrue (unfinished P t.0) × IsTimely P
IsTimely (_ ∷ P) = IsTimely P
