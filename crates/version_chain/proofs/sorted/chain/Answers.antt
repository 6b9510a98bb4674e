use Rattle.std.proofs.Common.{◌∙◌, ap, List, map, take}
use Rattle.version_chain.specs.declared.sorted.Stored.{Stored}
use Rattle.version_chain.specs.Stored.{version}
use Rattle.version_chain.proofs.Ranges.{of_cell-range, tail_is}
use Rattle.version_chain.proofs.sorted.chain.Goals as goal

pub returns : goal.returns
returns c =
    let len = c.range_of-start.result.1 in
    ap (λ (l : List Stored). map version (take len l)) (tail_is c.args.versions.now c.range_of-start.result.0)
    ∙ of_cell-range c.args.versions.now c.args.cell c.range_of-start.result.0 len c.range_of-start.ensures
