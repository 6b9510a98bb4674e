use Rattle.std.proofs.Common.{◌≡◌, ◌++◌, ◌-◌}
use Rattle.serial_order.specs.Seen.{marked_cells}
use Rattle.serial_order.proofs.seen_cells.SeenCells.marked.Given as goal

abbrev pub invariant-loop-place : goal.invariant-loop-place
invariant-loop-place l = l.cells.items ++ marked_cells l.self.width l.self.marks.items l.place (l.self.end - l.place) ≡ marked_cells l.self.width l.self.marks.items 0 l.self.end
