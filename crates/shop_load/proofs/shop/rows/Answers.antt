use Rattle.std.proofs.Common.{ℕ, ◌++◌, List, ℤ, pos, ◌∙◌, ap}
use Rattle.teb_rules.specs.declared.names.Cell.{Cell}
use Rattle.shop_load.specs.Shop.{filled}
use Rattle.shop_load.proofs.Shops.{ascends}
use Rattle.shop_load.proofs.shop.rows.Goals as goal

pub from_sorted-requires : goal.from_sorted-requires
from_sorted-requires c =
    let then = λ (table : ℕ) (value : ℤ) (rs : List (Cell × ℤ)). rs ++ filled table value 16 in
    ascends _ (c.in_ok-fill-3.ensures ∙ ap (then 2 (pos 1000)) (c.in_ok-fill-2.ensures ∙ ap (then 1 (pos 0)) (c.in_ok-fill.ensures ∙ ap (then 0 (pos 100)) c.new-rows.ensures.items)))
