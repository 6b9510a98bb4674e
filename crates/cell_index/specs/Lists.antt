-- Lists by the places of their cells.
use Rattle.std.specs.Prelude.{List, [], get_or}
use Rattle.teb_rules.specs.declared.names.Cell.{Cell}
use Rattle.cell_index.specs.Cells.{place_in}

-- the list of x; empty if it has none
abbrev pub list_for : {V : Type 0} → List Cell → List (List V) → Cell → List V
list_for cells lists x = get_or lists (place_in cells x) []
