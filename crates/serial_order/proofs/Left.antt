-- A cell that no transaction has put keeps its starting row.
use Rattle.std.proofs.Common.{ℕ, ◌≡◌, Bool, true, false, ◌||◌, eqb, List, [], ◌∷◌, reverse, refl, sym, ap, ◌∙◌, filter}
use Rattle.std.specs.List.{list_any}
use Rattle.std.specs.List.Sorted.{IsStrictlySortedBy}
use Rattle.std.proofs.lemmas.Bool.{both_ways, and_parts, and_right, or_parts, false_from_ne_true}
use Rattle.teb_rules.specs.declared.names.Cell.{Cell}
use Rattle.teb_rules.specs.names.Cells.{same_cell, cell_cmp}
use Rattle.teb_rules.specs.names.Rows.{row_of}
use Rattle.teb_rules.specs.declared.history.Event.{Event}
use Rattle.teb_rules.specs.declared.history.Event.TheVariants.{Began, Got, Put, Ready, Done, Gone, Told}
use Rattle.teb_rules.specs.history.Phases.{txns}
use Rattle.teb_rules.specs.history.Accesses.{wrote, put_at, is_put}
use Rattle.teb_rules.proofs.lemmas.history.Any.{came_any, any_reverse}
use Rattle.teb_rules.specs.Setup.{Store}
use Rattle.teb_rules.specs.Serializes.{value_of, final_table}
use Rattle.teb_rules.proofs.lemmas.laws.Serial.{filter-In}
use Rattle.serial_order.specs.Tables.{cells_put, AreCells}
use Rattle.serial_order.specs.Seen.{is_among}
use Rattle.serial_order.proofs.LastCommitted.{latest_nobody, is_final}

none_put : (x : Cell) (w : ℕ) (es : List Event) → is_among x (cells_put es) ≡ false → list_any (is_put w x) es ≡ false
none_put x w [] h = refl
none_put x w (Put t y v ∷ es) h =
    let p = or_parts (same_cell y x) (is_among x (cells_put es)) h in
    ap (λ (b : Bool). b || list_any (is_put w x) es) (and_right (eqb t.0 w) (same_cell y x) p.0) ∙ none_put x w es p.1
none_put x w (Began t s k i ∷ es) h = none_put x w es h
none_put x w (Got t y u v ∷ es) h = none_put x w es h
none_put x w (Ready t ∷ es) h = none_put x w es h
none_put x w (Done t ∷ es) h = none_put x w es h
none_put x w (Gone t c ∷ es) h = none_put x w es h
none_put x w (Told t ∷ es) h = none_put x w es h

not_wrote : (H : List Event) (x : Cell) (w : ℕ) → is_among x (cells_put (reverse H)) ≡ false → wrote H w x ≡ false
unfolding wrote put_at
not_wrote H x w h = came_any (is_put w x) H ∙ sym (any_reverse (is_put w x) H) ∙ none_put x w (reverse H) h

-- if no transaction has put the cell, its final value is the starting row
untouched : (X : Store) (H : List Event) (x : Cell) → ((w : ℕ) → wrote H w x ≡ false) → final_table X H x ≡ row_of X.rows x
unfolding final_table
untouched X H x f = ap (value_of X H x) (latest_nobody X.setup H x (filter (is_final H x) (txns H)) (λ u i.
    both_ways _ (f u) (and_parts _ _ (filter-In (is_final H x) u (txns H) i).1).1))

-- a sorted list that has each cell that was put is enough
pub cells_enough : (X : Store) (H : List Event) (xs : List Cell) → IsStrictlySortedBy cell_cmp xs → ((x : Cell) → is_among x (cells_put (reverse H)) ≡ true → is_among x xs ≡ true)
    → AreCells (final_table X H) X.rows xs
cells_enough X H xs sorted all = record {
  ascending = sorted;
  all = λ x h. untouched X H x (λ w. not_wrote H x w (false_from_ne_true _ (λ put. both_ways _ h (all x put))));
}

-- the number of tables does not matter
pub tables_alike : (X : Store) (n : ℕ) (H : List Event) (x : Cell) → final_table X H x ≡ final_table (record X { tables = n }) H x
unfolding final_table
tables_alike X n H x = refl
