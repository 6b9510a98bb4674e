use Rattle.std.proofs.Common.{◌≡◌, ◌∙◌, sym, true, false}
use Rattle.chain_pool.proofs.latest.mark.Goals as goal

pub returns-else-is_above-clause-marked : goal.returns-else-is_above-clause-marked
returns-else-is_above-clause-marked c above = let z : true ≡ false = sym (c.is_above.ensures.1 above) ∙ c.if-is_above.false in cc
