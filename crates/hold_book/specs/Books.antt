-- What a book shows: for each cell the holds on it.
use Rattle.std.specs.Prelude.{◌≡◌, ◌<◌, ◌≤◌, ◌+◌, ℕ, Bool, not, ◌&&◌, ◌||◌, eqb, List, [], filter, length, Option, IsTrue}
use Rattle.std.specs.Option.{is_some}
use Rattle.std.specs.List.{list_any}
use Rattle.teb_rules.specs.declared.names.Txn.{Txn}
use Rattle.teb_rules.specs.declared.names.Cell.{Cell}
use Rattle.teb_rules.specs.names.Cells.{cell_cmp}
use Rattle.teb_rules.specs.history.Ascending.{IsAscendingBy, put_by}
use Rattle.sorted_multimap.specs.Multimap.{Shown, values_in}
use Rattle.hold_book.specs.declared.Hold.{Hold}
use Rattle.hold_book.specs.declared.slots.Alone.{Alone}
use Rattle.hold_book.specs.Slots.{only_hold, only_or}

-- the number of the transaction of a hold
abbrev pub hold_number : Hold → ℕ
hold_number h = h.txn.0

-- what contracts see of a book: the cells that are in their slots, the holds on the others, and for how many accesses it has room
pub record Held : Type 0 where
  pub slots : List (Option Alone)
  pub others : Shown Cell Hold
  pub spare : ℕ

-- the holds on x, by the slots and by the others
abbrev pub shown_in : List (Option Alone) → Shown Cell Hold → Cell → List Hold
shown_in ss o x = only_or (only_hold ss x) (values_in cell_cmp o x)

-- the holds on x
abbrev pub shown : Held → Cell → List Hold
shown b x = shown_in b.slots b.others x

-- t is among those that have put
abbrev pub has_put : ℕ → List Hold → Bool
has_put t hs = list_any (λ h. eqb h.txn.0 t && h.wrote) hs

-- the holds on a cell after an access of t
abbrev pub accessed : Txn → Bool → List Hold → List Hold
accessed t wrote hs = put_by hold_number (record { txn = t; wrote = wrote || has_put t.0 hs }) hs

-- the holds of all transactions but t
abbrev pub released : ℕ → List Hold → List Hold
released t hs = filter (λ h. not (eqb h.txn.0 t)) hs

-- the holds on each cell ascend by transaction
pub record IsFiled (holds : Shown Cell Hold) : Type 0 where
  pub ascending : (x : Cell) → IsAscendingBy hold_number (values_in cell_cmp holds x)

-- a cell that is in its slot has no other holds
pub record IsApart (ss : List (Option Alone)) (o : Shown Cell Hold) : Type 0 where
  pub filed : IsFiled o
  pub alone : (x : Cell) → IsTrue (is_some (only_hold ss x)) → values_in cell_cmp o x ≡ []

-- an access puts at most two holds among the others
pub record IsBook (ss : List (Option Alone)) (o : Shown Cell Hold) (spare : ℕ) : Type 0 where
  pub apart : IsApart ss o
  pub made : 0 < spare → 1024 ≤ length ss
  pub room : spare + spare ≤ o.spare
