use Rattle.shop_load.proofs.Shops.{kinds_of, batches_of, parts_of, no_error}
use Rattle.shop_load.proofs.shop.tree.Goals as goal

pub build-requires-clause-kinds : goal.build-requires-clause-kinds
build-requires-clause-kinds c = kinds_of _ c.in_ok-nodes.ensures

pub build-requires-clause-batches : goal.build-requires-clause-batches
build-requires-clause-batches c = batches_of _ c.in_ok-nodes.ensures

pub build-requires-clause-parts : goal.build-requires-clause-parts
build-requires-clause-parts c = parts_of _ c.in_ok-nodes.ensures

pub unreachable-requires : goal.unreachable-requires
unreachable-requires c =
    let only = no_error c.in_ok-nodes.field-0.items c.in-Err-Shape.field-0 c.in_ok-nodes.ensures c.in-Err-Shape.ensures in
    let is = c.in-Err-Shape.field-0-is in absurd (cc)

pub unreachable-requires-in-Err-Misplaced : goal.unreachable-requires-in-Err-Misplaced
unreachable-requires-in-Err-Misplaced c =
    let only = no_error c.in_ok-nodes.field-0.items c.in-Err-Misplaced.field-0 c.in_ok-nodes.ensures c.in-Err-Misplaced.ensures in
    let is = c.in-Err-Misplaced.field-0-is in absurd (cc)
