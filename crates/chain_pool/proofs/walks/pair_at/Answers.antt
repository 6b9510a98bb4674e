use Rattle.chain_pool.proofs.Sizes.{used_within}
use Rattle.chain_pool.proofs.walks.pair_at.Goals as goal

pub at-requires : goal.at-requires
at-requires c = used_within c.args.places.now c.args.place c.requires
