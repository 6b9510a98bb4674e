use Rattle.chain_pool.proofs.OfCells.{len_is}
use Rattle.chain_pool.proofs.cell_chain.CellChain.len.Goals as goal

pub returns : goal.returns
returns c = len_is c.args.self.pool.now c.args.self.cell c.args.self.chain c.args.self.sound c.args.self.of_cell
