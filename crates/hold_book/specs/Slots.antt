-- Slots, for cells that one transaction alone holds.
use Rattle.std.specs.Prelude.{ℕ, ◌+◌, ◌*◌, ◌%◌, Bool, true, cond, List, [], ◌∷◌, Option, Some, None, get_or}
use Rattle.teb_rules.specs.declared.names.Cell.{Cell}
use Rattle.teb_rules.specs.names.Cells.{same_cell}
use Rattle.hold_book.specs.declared.Hold.{Hold}
use Rattle.hold_book.specs.declared.slots.Alone.{Alone}

-- the number of the slot that x may have
unfoldable pub slot_of : Cell → ℕ
slot_of x = (x.key + x.table.0 * 89) % 1024

-- what is in it
abbrev pub slot_at : List (Option Alone) → Cell → Option Alone
slot_at ss x = get_or ss (slot_of x) None

-- no cell but x is there
abbrev pub is_open : Cell → Option Alone → Bool
is_open x None = true
is_open x (Some a) = same_cell a.cell x

-- the hold on x, if it is x that is there
abbrev pub hold_in : Cell → Option Alone → Option Hold
hold_in x None = None
hold_in x (Some a) = cond (same_cell a.cell x) (Some a.hold) None

-- the only hold on x, if x is in its slot
abbrev pub only_hold : List (Option Alone) → Cell → Option Hold
only_hold ss x = hold_in x (slot_at ss x)

-- it, or else the others
abbrev pub only_or : Option Hold → List Hold → List Hold
only_or None hs = hs
only_or (Some h) hs = h ∷ []
