use Rattle.chain_pool.proofs.Sizes.{used_within}
use Rattle.chain_pool.proofs.places.rewrite.Goals as goal

pub bounds-places-place : goal.bounds-places-place
bounds-places-place c = used_within c.args.places.now c.args.place c.requires
