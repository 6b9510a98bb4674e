use Rattle.chain_pool.specs.Pools.{chain_of}
use Rattle.chain_pool.proofs.Writers.{first_place-absent}
use Rattle.chain_pool.proofs.cell_chain.CellChain.own.Goals as goal

pub returns-then-is_new-clause-place : goal.returns-then-is_new-clause-place
returns-then-is_new-clause-place c = first_place-absent (chain_of c.args.self.pool.now c.args.self.cell) c.args.t.0 (rw c.if-is_new.true at c.requires)
