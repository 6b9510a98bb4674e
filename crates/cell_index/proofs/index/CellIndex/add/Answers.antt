use Rattle.std.proofs.Common.{length, ap, arith}
use Rattle.cell_index.proofs.Places.{put_known}
use Rattle.cell_index.proofs.index.CellIndex.add.Goals as goal

pub returns-else-place-len-clause-cells : goal.returns-else-place-len-clause-cells
returns-else-place-len-clause-cells c =
    put_known c.args.self.now.cells c.args.cell (λ e. c.if-place-len.false (omega (arith, e, c.place-place.ensures, c.len.ensures, c.self.inside.cells.ok.0, ap (λ s. length s.cells) c.self.view_is)))
