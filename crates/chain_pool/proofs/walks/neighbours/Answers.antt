use Rattle.std.proofs.Common.{◌∙◌, ◌<◌, ◌-◌, length, suc, ap, sym, subst, arith}
use Rattle.chain_pool.specs.declared.places.Place.{Place}
use Rattle.chain_pool.specs.Places.{previous_at}
use Rattle.chain_pool.proofs.walks.neighbours.Goals as goal

pub returns-else-chain-eq0-clause-before_within : goal.returns-else-chain-eq0-clause-before_within
returns-else-chain-eq0-clause-before_within c =
    let is = ap (λ (p : Place). p.previous) c.at.ensures ∙ ap (previous_at c.args.places.now) c.step_back-after.ensures in
    subst (λ p. p < length c.args.places.now) (sym is) (c.requires.safe (suc (c.args.chain.len - c.args.i)) (omega arith))
