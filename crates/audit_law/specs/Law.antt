-- The law of printed runs.
use Rattle.std.specs.Prelude.{◌≡◌, ℕ, List, map, reverse, ◌++◌, ℤ, All, None, Ok}
use Rattle.std.specs.List.{flat_map, IsDistinct}
use Rattle.std.specs.Str.{bytes_eq}
use Rattle.teb_rules.specs.declared.names.Cell.{Cell}
use Rattle.teb_rules.specs.declared.names.Txn.{Txn}
use Rattle.teb_rules.specs.declared.names.naming.NameBook.{NameBook}
use Rattle.teb_rules.specs.names.Rows.{row_of, IsAscending}
use Rattle.teb_rules.specs.declared.history.Event.{Event}
use Rattle.teb_rules.specs.Setup.{Store}
use Rattle.teb_rules.specs.Ranks.{serial_order}
use Rattle.teb_rules.specs.Serializes.{final_table}
use Rattle.teb_rules.specs.laws.Laws.{OfEveryStore}
use Rattle.script_text.specs.Texts.{starts_text, event_text, report_text}
use Rattle.audit_check.specs.Audit.{IsAudited, first_line}
use Rattle.audit_check.specs.Faults.{is_among, wrong_order}
use Rattle.audit_check.specs.Items.{Item}
use Rattle.audit_check.specs.Lines.{items_of}
use Rattle.audit_check.specs.Standings.{committed}
use Rattle.audit_check.specs.Tables.{order_in}
use Rattle.audit_law.specs.Printed.{AreNames, RowFits, EventFits}

-- the starting rows, the events of a history from the oldest on, and the report
abbrev pub printed_run : NameBook → List (Cell × ℤ) → List Event → List Txn → List (Cell × ℤ) → List ℕ
printed_run names starts H order rows = starts_text names starts ++ (flat_map (event_text names) (reverse H) ++ report_text names order rows)

-- the numbers are of their types, and what is named has a name of its own
pub record CanPrint (names : NameBook) (starts : List (Cell × ℤ)) (H : List Event) : Type 0 where
  pub names_are : AreNames names
  pub names_differ : IsDistinct bytes_eq names.tables
  pub starts_fit : All (RowFits names) starts
  pub events_fit : All (EventFits names) H

-- the serial order of the history, and the rows of its final table, in ascending order of cells
pub record Reports (X : Store) (H : List Event) (order : List Txn) (rows : List (Cell × ℤ)) : Type 0 where
  pub order_is : map (λ t. t.0) order ≡ serial_order X.setup H
  pub ascending : IsAscending rows
  pub final : (x : Cell) → row_of rows x ≡ final_table X H x

-- whatever is asked of an accepted tree, the run that is printed is audited
abbrev pub PrintedRunsAreAudited : Type 0
PrintedRunsAreAudited = OfEveryStore (λ X H. (names : NameBook) (order : List Txn) (rows : List (Cell × ℤ))
    → IsAscending X.rows → CanPrint names X.rows H → Reports X H order rows → IsAudited (printed_run names X.rows H order rows))

-- where a text has its form and its order is right, the order lists the transactions that commit
abbrev pub OrdersListTheCommitted : Type 0
OrdersListTheCommitted = (text : List ℕ) (H : List Item) → items_of text ≡ Ok H → first_line (wrong_order H) H ≡ None → (t : ℕ) → is_among (order_in H) t ≡ committed H t
