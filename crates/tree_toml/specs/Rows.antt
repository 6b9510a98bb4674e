-- The starting rows of a tree text.
use Rattle.std.specs.Prelude.{ℕ, ℤ, if◌then◌else◌, List, [], codes, Result, Ok, Err, is_some}
use Rattle.teb_rules.specs.declared.names.rows.TheConstants.{MOST_ROWS}
use Rattle.teb_rules.specs.declared.names.Cell.{Cell}
use Rattle.teb_rules.specs.declared.names.Table.{Table}
use Rattle.teb_rules.specs.names.Rows.{row_of, insert_row}
use Rattle.toml.specs.Data.{Data, Members}
use Rattle.tree_toml.specs.declared.fault.ListName.TheVariants as list
use Rattle.tree_toml.specs.declared.fault.Key.TheVariants as key
use Rattle.tree_toml.specs.declared.fault.FieldWhy.{FieldWhy}
use Rattle.tree_toml.specs.declared.fault.FieldWhy.TheVariants.{Repeated}
use Rattle.tree_toml.specs.declared.fault.TreeTextError.{TreeTextError}
use Rattle.tree_toml.specs.Reading.{◌>>=◌, required, fault_at, at, each}
use Rattle.tree_toml.specs.Fields.{place, text_at, integer_at, within, numbered, list_at, table_entry}

abbrev pub row_table : List (List ℕ) → Members → Result Table FieldWhy
row_table tables ms = text_at (codes "table") ms >>= required >>= numbered tables >>= (λ t. Ok (record { 0 = t }))

abbrev pub row_key : Members → Result ℕ FieldWhy
row_key ms = integer_at (codes "key") ms >>= required >>= within 0 4294967295

abbrev pub row_value : Members → Result ℤ FieldWhy
row_value ms = integer_at (codes "value") ms >>= required

-- a row: its cell and its value
abbrev pub row_entry : List (List ℕ) → ℕ → Data → Result (Cell × ℤ) TreeTextError
row_entry tables i d =
    table_entry list.Rows 1 i d >>= (λ ms.
    at (place list.Rows i key.Table) (row_table tables ms) >>= (λ table.
    at (place list.Rows i key.CellKey) (row_key ms) >>= (λ k.
    at (place list.Rows i key.Value) (row_value ms) >>= (λ value.
    Ok (record { table = table; key = k }, value)))))

-- a row in front of the rows of later cells, where its cell has none
abbrev pub row_placed : ℕ → List (Cell × ℤ) → Cell × ℤ → Result (List (Cell × ℤ)) TreeTextError
row_placed i rows r = if is_some (row_of rows r.0) then Err (fault_at (place list.Rows i key.Value) Repeated) else Ok (insert_row rows r.0 r.1)

abbrev pub row_in : List (List ℕ) → ℕ → List (Cell × ℤ) → Data → Result (List (Cell × ℤ)) TreeTextError
row_in tables i rows d = row_entry tables i d >>= row_placed i rows

unfoldable pub rows_in : List (List ℕ) → List Data → Result (List (Cell × ℤ)) TreeTextError
rows_in tables ds = each (row_in tables) 0 [] ds

abbrev pub rows_of : List (List ℕ) → Members → Result (List (Cell × ℤ)) TreeTextError
rows_of tables ms = list_at list.Rows (codes "row") key.Rows 0 MOST_ROWS ms >>= rows_in tables
