use Rattle.std.proofs.Common.{length, sym, ◌∙◌, ap, arith}
use Rattle.cell_index.proofs.Numbers.{number_none}
use Rattle.cell_index.proofs.index.CellIndex.place.Goals as goal

pub returns-in-0 : goal.returns-in-0
returns-in-0 c =
    let cells = c.args.self.now.cells in
    omega (arith, number_none cells c.args.cell (sym c.number.ensures ∙ c.in-0.is), c.len.ensures, c.self.inside.cells.ok.0, ap (λ s. length s.cells) c.self.view_is)
