-- The format and the tables of a tree text.
use Rattle.std.specs.Prelude.{ℕ, List, [], codes, Result}
use Rattle.toml.specs.Data.{Data, Members, as_str}
use Rattle.tree_toml.specs.declared.fault.ListName.TheVariants as list
use Rattle.tree_toml.specs.declared.fault.Key.TheVariants as key
use Rattle.tree_toml.specs.declared.fault.FieldWhy.{FieldWhy}
use Rattle.tree_toml.specs.declared.fault.TreeTextError.{TreeTextError}
use Rattle.tree_toml.specs.Reading.{◌>>=◌, required, formed, at, each}
use Rattle.tree_toml.specs.Fields.{place, integer_at, within, list_at}
use Rattle.tree_toml.specs.Names.{named}

-- 1, 2 or 3
abbrev pub format_of : Members → Result ℕ FieldWhy
format_of ms = integer_at (codes "format") ms >>= required >>= within 1 3

-- a table: its name, which none before it has
abbrev pub table_in : ℕ → List (List ℕ) → Data → Result (List (List ℕ)) TreeTextError
table_in i names d = at (place list.Tables i key.Whole) (formed (as_str d) >>= named names)

unfoldable pub tables_in : List Data → Result (List (List ℕ)) TreeTextError
tables_in ds = each table_in 0 [] ds

abbrev pub tables_of : Members → Result (List (List ℕ)) TreeTextError
tables_of ms = list_at list.Tables (codes "tables") key.Tables 1 64 ms >>= tables_in
