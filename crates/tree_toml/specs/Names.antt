-- New names.
use Rattle.std.specs.Prelude.{ℕ, not, if◌then◌else◌, List, [], ◌∷◌, ◌++◌, Result, Ok, Err}
use Rattle.teb_rules.specs.names.Names.{is_name, has}
use Rattle.tree_toml.specs.declared.fault.FieldWhy.{FieldWhy}
use Rattle.tree_toml.specs.declared.fault.FieldWhy.TheVariants.{Name, Repeated}

-- these names, and a new one behind them
unfoldable pub named : List (List ℕ) → List ℕ → Result (List (List ℕ)) FieldWhy
named names s =
    if not (is_name s) then Err Name
    else if has names s then Err Repeated
    else Ok (names ++ s ∷ [])
