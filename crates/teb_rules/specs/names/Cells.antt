-- Cells, compared by table and key.
use Rattle.std.specs.Prelude.{Bool, ◌&&◌, eqb}
use Rattle.std.specs.Ordering.{nat_cmp, ordering_then, is_lt}
use Rattle.std.specs.declared.cmp.Ordering.{Ordering}
use Rattle.teb_rules.specs.declared.names.Cell.{Cell}

abbrev pub same_cell : Cell → Cell → Bool
same_cell x y = eqb x.table.0 y.table.0 && eqb x.key y.key

-- their order: by table, and in one table by key
abbrev pub cell_cmp : Cell → Cell → Ordering
cell_cmp x y = ordering_then (nat_cmp x.table.0 y.table.0) (nat_cmp x.key y.key)

abbrev pub is_before : Cell → Cell → Bool
is_before x y = is_lt (cell_cmp x y)
