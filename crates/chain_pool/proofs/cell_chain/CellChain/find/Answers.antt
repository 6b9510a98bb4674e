use Rattle.std.proofs.Common.{◌∙◌, eqb, rules}
use Rattle.chain_pool.proofs.Chains.{find_last}
use Rattle.chain_pool.proofs.cell_chain.CellChain.find.Goals as goal

pub returns-clause-place : goal.returns-clause-place
returns-clause-place c =
    let p = c.args.self.pool.now in
    c.last_accepted.ensures.place (λ w. eqb w c.args.t.0) (λ u b there called. search rules) ∙ find_last p.places.items _ _ p.unused c.args.self.sound.linked c.args.self.cell c.args.t.0
