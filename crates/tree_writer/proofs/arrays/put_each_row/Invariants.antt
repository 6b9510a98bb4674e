use Rattle.std.proofs.Common.{◌≡◌, ◌++◌, drop}
use Rattle.std.specs.List.{flat_map}
use Rattle.tree_writer.specs.Written.{row_item}
use Rattle.tree_writer.proofs.arrays.put_each_row.Given as goal

abbrev pub invariant-loop-row : goal.invariant-loop-row
invariant-loop-row l = l.out.items ++ flat_map (row_item l.tables) (drop l.row-index l.rows) ≡ l.fn.out.items ++ flat_map (row_item l.tables) l.rows
