-- The text of a printed run.
use Rattle.std.specs.Prelude.{◌≡◌, ℕ, ℤ, ◌++◌, List, length, reverse}
use Rattle.std.specs.List.{flat_map, IsDistinct}
use Rattle.std.specs.Str.{bytes_eq}
use Rattle.teb_rules.specs.declared.names.Txn.{Txn}
use Rattle.teb_rules.specs.declared.names.Cell.{Cell}
use Rattle.teb_rules.specs.declared.names.naming.NameBook.{NameBook}
use Rattle.teb_rules.specs.declared.history.Event.{Event}
use Rattle.teb_rules.specs.Setup.{Store}
use Rattle.teb_rules.specs.Ranks.{serial_order}
use Rattle.serial_order.specs.Commits.{txn_numbers}
use Rattle.teb_rules.specs.Epochs.{AreFinalRows}
use Rattle.script_text.specs.Texts.{starts_text, event_text, report_text}
use Rattle.audit_law.specs.Printed.{AreNames}

-- this text, and behind it the serial order and the final rows
pub record IsReportAfter (front : List ℕ) (X : Store) (names : NameBook) (H : List Event) (text : List ℕ) : Type 0 where
  pub order : List Txn
  pub rows : List (Cell × ℤ)
  pub ordered : txn_numbers order ≡ serial_order X.setup H
  pub final : AreFinalRows X H rows
  pub joined : text ≡ front ++ report_text names order rows

-- the start lines and the event lines, the oldest event first
abbrev pub lines_of_run : Store → NameBook → List Event → List ℕ
lines_of_run X names H = starts_text names X.rows ++ flat_map (event_text names) (reverse H)

-- these lines, the serial order and the final rows
abbrev pub IsPrintedRun : Store → NameBook → List Event → List ℕ → Type 0
IsPrintedRun X names H text = IsReportAfter (lines_of_run X names H) X names H text

-- each node of the store has a name; what is named has the form of names, and no two tables have the same
pub record IsNamedBy (X : Store) (names : NameBook) : Type 0 where
  pub nodes : length X.setup.tree ≡ length names.nodes
  pub are : AreNames names
  pub differ : IsDistinct bytes_eq names.tables
