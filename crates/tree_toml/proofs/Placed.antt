-- An ordered map from cells, as ascending rows.
use Rattle.std.proofs.Common.{◌≡◌, Bool, true, false, cond, List, [], ◌∷◌, Option, Some, None, ℤ, refl, sym, ap, ◌∙◌, Ok, Err, ℕ}
use Rattle.std.specs.BTreeMap.{insert_entry, is_at}
use Rattle.std.specs.Map.{lookup}
use Rattle.std.specs.Ordering.{is_eq, is_lt, match_ordering, ordering_reverse}
use Rattle.std.specs.declared.cmp.Ordering.{Ordering}
use Rattle.std.specs.declared.cmp.Ordering.TheVariants.{Less, Equal, Greater}
use Rattle.teb_rules.specs.names.Cells.{same_cell, cell_cmp}
use Rattle.teb_rules.specs.names.Rows.{row_of, insert_row}
use Rattle.teb_rules.specs.declared.names.Cell.{Cell}
use Rattle.tree_toml.specs.declared.fault.ListName.TheVariants as list
use Rattle.tree_toml.specs.declared.fault.Key.TheVariants as key
use Rattle.tree_toml.specs.declared.fault.FieldWhy.TheVariants.{Repeated}
use Rattle.tree_toml.specs.Reading.{fault_at}
use Rattle.tree_toml.specs.Fields.{place}
use Rattle.tree_toml.specs.Rows.{row_placed}
use Rattle.teb_rules.proofs.lemmas.names.CellOrder.{cell_cmp_total, same_cell-cell_cmp}

is_eq_reverse : (o : Ordering) → is_eq (ordering_reverse o) ≡ is_eq o
is_eq_reverse Less = refl
is_eq_reverse Equal = refl
is_eq_reverse Greater = refl

tied : (x y : Cell) → is_eq (cell_cmp x y) ≡ same_cell y x
tied x y = ap is_eq (cell_cmp_total.antisymm x y) ∙ is_eq_reverse (cell_cmp y x) ∙ sym (same_cell-cell_cmp y x)

pub looked_up : (rows : List (Cell × ℤ)) (x : Cell) → lookup (is_at (cell_cmp x)) rows ≡ row_of rows x
looked_up [] x = refl
looked_up (r ∷ rows) x = rw (tied x r.0, looked_up rows x)

-- if x has no row, the first row is of another cell, and no row after it is of x
skipped : (b : Bool) (v : ℤ) (o : Option ℤ) → cond b (Some v) o ≡ None → (b ≡ false) × (o ≡ None)
skipped true v o e = absurd (cc)
skipped false v o e = (refl, e)

chosen : (o : Ordering) (front same behind back : List (Cell × ℤ)) → is_eq o ≡ false → behind ≡ back → match_ordering o front same behind ≡ cond (is_lt o) front back
chosen Less front same behind back apart e = refl
chosen Equal front same behind back apart e = absurd (cc)
chosen Greater front same behind back apart e = e

pub inserted : (rows : List (Cell × ℤ)) (x : Cell) (v : ℤ) → row_of rows x ≡ None → insert_entry cell_cmp rows x v ≡ insert_row rows x v
inserted [] x v none = refl
inserted (r ∷ rows) x v none =
    let without = skipped (same_cell r.0 x) r.1 (row_of rows x) none in
    chosen (cell_cmp x r.0) _ _ _ _ (tied x r.0 ∙ without.0) (ap (λ (l : List (Cell × ℤ)). r ∷ l) (inserted rows x v without.1))

-- a row of a new cell is placed, and one of a cell that has a row is refused
pub placed : (i : ℕ) (rows new : List (Cell × ℤ)) (r : Cell × ℤ) (v : ℤ) → None ≡ lookup (is_at (cell_cmp r.0)) rows → new ≡ insert_entry cell_cmp rows r.0 v → v ≡ r.1 → row_placed i rows r ≡ Ok new
placed i rows new r v old is same =
    let none : row_of rows r.0 ≡ None = sym (looked_up rows r.0) ∙ sym old in
    rw (none, is, inserted rows r.0 v none, same)

pub placed_again : (i : ℕ) (rows : List (Cell × ℤ)) (r : Cell × ℤ) (v : ℤ) → Some v ≡ lookup (is_at (cell_cmp r.0)) rows → row_placed i rows r ≡ Err (fault_at (place list.Rows i key.Value) Repeated)
placed_again i rows r v old =
    let there : row_of rows r.0 ≡ Some v = sym (looked_up rows r.0) ∙ sym old in
    rw there
