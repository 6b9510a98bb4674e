-- Rows of which one is not of the first tables.
use Rattle.std.proofs.Common.{ℕ, zero, suc, ◌<◌, ◌≤◌, List, [], ◌∷◌, length, Bool, true, false, cond, Some, ℤ, refl, ap, get_or, arith}
use Rattle.std.specs.Prelude.{IsSome, is_some, Option}
use Rattle.teb_rules.specs.declared.names.Cell.{Cell}
use Rattle.teb_rules.specs.names.Cells.{same_cell}
use Rattle.teb_rules.specs.names.Rows.{row_of}
use Rattle.teb_rules.proofs.lemmas.names.SameCells.{same_itself}
use Rattle.engine_store.specs.Opening.{HasRowOutside}

some_with : (b : Bool) (v : ℤ) (o : Option ℤ) → IsSome o → IsSome (cond b (Some v) o)
some_with true v o is = refl
some_with false v o is = is

-- the cell of each row has a row
has_row : (rows : List (Cell × ℤ)) (i : ℕ) (d : Cell × ℤ) → i < length rows → IsSome (row_of rows (get_or rows i d).0)
has_row [] i d below = absurd (omega arith)
has_row (r ∷ rs) zero d below = ap (λ b. is_some (cond b (Some r.1) (row_of rs r.0))) (same_itself r.0)
has_row (r ∷ rs) (suc i) d below = some_with (same_cell r.0 (get_or rs i d).0) r.1 (row_of rs (get_or rs i d).0) (has_row rs i d (omega arith))

pub outside : (tables : ℕ) (rows : List (Cell × ℤ)) (i : ℕ) (d : Cell × ℤ) → i < length rows → tables ≤ (get_or rows i d).0.table.0 → HasRowOutside tables (row_of rows)
outside tables rows i d below other = ((get_or rows i d).0, has_row rows i d below, other)
