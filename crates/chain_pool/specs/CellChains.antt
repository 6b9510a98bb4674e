-- The chain of a cell, as reads see it.
use Rattle.std.specs.Prelude.{List}
use Rattle.version_chain.specs.Lists.{Version}
use Rattle.chain_pool.specs.declared.cell_chain.CellChain.{CellChain}
use Rattle.chain_pool.specs.Pools.{chain_of}

-- its versions
abbrev pub list_of : CellChain → List Version
list_of c = chain_of c.pool.now c.cell
