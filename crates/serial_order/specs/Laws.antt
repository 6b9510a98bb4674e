-- The laws of the rules, of engines and of the order that `order` returns.
use Rattle.std.specs.Prelude.{◌≡◌, ◌≢◌, ℕ, List, IsTrue}
use Rattle.std.specs.List.{list_any}
use Rattle.teb_rules.specs.declared.names.Cell.{Cell}
use Rattle.teb_rules.specs.declared.names.Txn.{Txn}
use Rattle.teb_rules.specs.history.Phases.{committed}
use Rattle.teb_rules.specs.history.Accesses.{wrote}
use Rattle.teb_rules.specs.Versions.{precedes}
use Rattle.teb_rules.specs.Ranks.{serial_order}
use Rattle.teb_rules.specs.Serializes.{StandsBefore}
use Rattle.teb_rules.specs.laws.Laws.{is_read, ReadsAreStable}
use Rattle.engine_core.specs.EngineModel.{EngineModel, IsOfEngine}
use Rattle.serial_order.specs.Commits.{txn_numbers}

-- P holds of every engine at every moment
abbrev pub OfEveryEngine : (EngineModel → Type 0) → Type 0
OfEveryEngine P = (e : EngineModel) → IsOfEngine e → P e

-- and of the numbers of the transactions in the order that `order` returns
abbrev pub OfEveryOrder : (EngineModel → List ℕ → Type 0) → Type 0
OfEveryOrder P = OfEveryEngine (λ e. (ts : List Txn) → txn_numbers ts ≡ serial_order e.store.setup e.events → P e (txn_numbers ts))

-- of two committed transactions with conflicting accesses of x, the order has the one first whose access counts as the earlier one
pub record KeepsConflicts (e : EngineModel) (order : List ℕ) : Type 0 where
  pub writes : (u w : ℕ) (x : Cell) → IsTrue (committed e.events u) → IsTrue (committed e.events w) → u ≢ w → IsTrue (wrote e.events u x) → IsTrue (wrote e.events w x)
      → IsTrue (precedes e.store.setup e.events x u w) → StandsBefore order u w
  pub reads : (u w : ℕ) (x : Cell) → IsTrue (committed e.events u) → IsTrue (committed e.events w) → u ≢ w → IsTrue (list_any (is_read w x u) e.events) → StandsBefore order u w
  pub overwrites : (u w v : ℕ) (x : Cell) → IsTrue (committed e.events u) → IsTrue (committed e.events w) → u ≢ w → IsTrue (list_any (is_read u x v) e.events) → u ≢ v → IsTrue (wrote e.events w x)
      → IsTrue (precedes e.store.setup e.events x v w) → StandsBefore order u w
  pub stable : ReadsAreStable e.store.setup e.events
