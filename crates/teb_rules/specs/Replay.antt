-- Transactions that run one after the other on a plain table.
use Rattle.std.specs.Prelude.{◌≡◌, ℕ, cond, eqb, List, [], ◌∷◌, Option, ℤ, IsTrue}
use Rattle.teb_rules.specs.declared.names.Cell.{Cell}
use Rattle.teb_rules.specs.declared.history.Event.{Event}
use Rattle.teb_rules.specs.declared.history.Event.TheVariants.{Got, Put}
use Rattle.teb_rules.specs.names.Cells.{same_cell}

-- a table of values, by cell
abbrev pub Values : Type 0
Values = Cell → Option ℤ

-- the table with v in cell x; no value removes the row
abbrev pub put_in : Cell → Option ℤ → Values → Values
put_in x v T y = cond (same_cell x y) v (T y)

-- the table after t's own Puts of H, beginning with T
unfoldable pub after_puts : List Event → ℕ → Values → Values
after_puts [] t T = T
after_puts (Put u x v ∷ P) t T = cond (eqb u.0 t) (put_in x v (after_puts P t T)) (after_puts P t T)
after_puts (_ ∷ P) t T = after_puts P t T

-- each Got of t in H reads what the table then holds, beginning with T
unfoldable pub GotsRight : List Event → ℕ → Values → Type 0
GotsRight [] t T = Unit {0}
GotsRight (Got u x w v ∷ P) t T = (IsTrue (eqb u.0 t) → v ≡ after_puts P t T x) × GotsRight P t T
GotsRight (_ ∷ P) t T = GotsRight P t T

-- the table after the transactions of a list, one after the other, and that all that they read is right
unfoldable pub table_after : List Event → List ℕ → Values → Values
table_after H [] T = T
table_after H (t ∷ ts) T = table_after H ts (after_puts H t T)

unfoldable pub ReplaysRight : List Event → List ℕ → Values → Type 0
ReplaysRight H [] T = Unit {0}
ReplaysRight H (t ∷ ts) T = GotsRight H t T × ReplaysRight H ts (after_puts H t T)
