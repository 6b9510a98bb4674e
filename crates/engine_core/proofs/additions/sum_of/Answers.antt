use Rattle.std.proofs.lemmas.Int.{to_z-of_z}
use Rattle.engine_core.proofs.Adding.{sums}
use Rattle.engine_core.proofs.additions.sum_of.Goals as goal

pub returns : goal.returns
returns c =
    let base_fits = c.ranges.base in
    let number_fits = c.ranges.number in
    sums c.args.base c.args.number c.checked_add.result (simp to_z-of_z at c.checked_add.ensures)
