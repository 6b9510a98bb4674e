use Rattle.std.proofs.Common.{◌≡◌, ◌++◌}
use Rattle.shop_load.specs.Shop.{filled}
use Rattle.shop_load.proofs.shop.fill.Given as goal

-- the rows of the keys so far
abbrev pub invariant-loop-i : goal.invariant-loop-i
invariant-loop-i l = l.rows.items ≡ l.fn.rows.items ++ filled l.table.0 l.value l.i
