-- The label of a journal.
use Rattle.std.specs.Prelude.{◌≡◌, ℕ, true, List, [], ◌∷◌, ◌++◌}
use Rattle.std.specs.List.{flat_map, list_all}
use Rattle.teb_rules.specs.names.Names.{is_name}

-- a name and a newline
abbrev pub line_of : List ℕ → List ℕ
line_of name = name ++ 10 ∷ []

-- the names of the tables, each followed by a newline
abbrev pub label_of : List (List ℕ) → List ℕ
label_of names = flat_map line_of names

-- tables of other names, or in another order, have another label
abbrev pub LabelTellsNames : Type 0
LabelTellsNames = (some other : List (List ℕ)) → list_all is_name some ≡ true → list_all is_name other ≡ true → label_of some ≡ label_of other → some ≡ other
