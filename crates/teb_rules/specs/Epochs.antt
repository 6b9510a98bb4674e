-- The end of an epoch, that is of a history after which a store goes on with a new one: who is in the way of it, and the rows that it leaves.
use Rattle.std.specs.Prelude.{◌≡◌, ℕ, ℤ, List, Some, IsTrue}
use Rattle.teb_rules.specs.declared.names.Cell.{Cell}
use Rattle.teb_rules.specs.names.Rows.{row_of, IsAscending}
use Rattle.teb_rules.specs.declared.history.Event.{Event}
use Rattle.teb_rules.specs.history.Phases.{unfinished, aborted, held}
use Rattle.teb_rules.specs.Setup.{Store}
use Rattle.teb_rules.specs.Serializes.{final_table}

-- session s holds an aborted transaction: it has not been told of the abort
pub record IsUntold (H : List Event) (s : ℕ) : Type 0 where
  pub txn : ℕ
  pub holds : held H s ≡ Some txn
  pub gone : IsTrue (aborted H txn)

-- no transaction is unfinished, and each session has been told of its abort
pub record IsDrained (H : List Event) : Type 0 where
  pub finished : (t : ℕ) → ¬ IsTrue (unfinished H t)
  pub told : (s : ℕ) → ¬ IsUntold H s

-- these rows, in ascending order of cells, are those of the final table
pub record AreFinalRows (X : Store) (H : List Event) (rows : List (Cell × ℤ)) : Type 0 where
  pub ascending : IsAscending rows
  pub each : (x : Cell) → row_of rows x ≡ final_table X H x
