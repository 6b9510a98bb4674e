use Rattle.store_setup.specs.tree.Grown.{rows_of}
use Rattle.store_setup.specs.tree.Homes.{part_lists, part_paths}
use Rattle.store_setup.proofs.lemmas.tree.Below.{map_none, map_step}
use Rattle.store_setup.proofs.tree.homes.all_paths.Goals as goal

pub loop-k-init : goal.loop-k-init
loop-k-init c = map_none part_lists (λ k. part_paths (rows_of c.args.rows.now) k) c.in_ok-paths.paths.items c.in_ok-paths.ensures.items

pub loop-k-preserved : goal.loop-k-preserved
loop-k-preserved c = map_step part_lists (λ k. part_paths (rows_of c.args.rows.now) k) c.loop-k.k c.loop-k.paths.items c.push.new.self.items c.in_ok-part_paths.field-0 c.in_ok-push.ensures.items
    c.loop-k.invariant c.in_ok-part_paths.ensures
