-- The order of cells: by table, then by key.
use Rattle.std.specs.Ordering.{nat_cmp, ordering_then}
use Rattle.std.specs.declared.cmp.Ordering.{Ordering}
use Rattle.teb_rules.specs.declared.names.Cell.{Cell}

abbrev pub cell_cmp : Cell → Cell → Ordering
cell_cmp x y = ordering_then (nat_cmp x.table.0 y.table.0) (nat_cmp x.key y.key)
