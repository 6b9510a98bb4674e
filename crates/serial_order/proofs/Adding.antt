-- Adding cells one after another.
use Rattle.std.proofs.Common.{◌≡◌, true, ◌||◌, List}
use Rattle.teb_rules.specs.declared.names.Cell.{Cell}
use Rattle.serial_order.specs.declared.seen_cells.SeenCells.{SeenCells}
use Rattle.serial_order.specs.Seen.{is_among, has, IsSound}

-- of the cells xs, all but `rest` are added
pub record Adding (old new : SeenCells) (xs rest : List Cell) : Type 0 where
  pub sound : IsSound new
  pub all : (x : Cell) → (has old x || is_among x xs) ≡ true → (has new x || is_among x rest) ≡ true
