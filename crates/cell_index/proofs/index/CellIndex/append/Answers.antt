use Rattle.std.proofs.Common.{◌≡◌, ◌+◌, [], ◌∷◌, ◌++◌, length, ◌∙◌, sym, ap, subst, arith, if◌then◌else◌}
use Rattle.teb_rules.specs.names.Cells.{same_cell}
use Rattle.cell_index.specs.Blocks.{number_or}
use Rattle.cell_index.specs.Cells.{place_in}
use Rattle.cell_index.specs.Index.{far_number}
use Rattle.cell_index.proofs.Places.{place_absent, with_new}
use Rattle.cell_index.proofs.Numbers.{far_vacant, index_push}
use Rattle.cell_index.proofs.index.CellIndex.append.Goals as goal

pub put_number-requires-clause-vacant : goal.put_number-requires-clause-vacant
put_number-requires-clause-vacant c = let p = c.self.inside in far_vacant p.blocks p.far p.cells p.spare c.self.invariant

pub invariant_of-self : goal.invariant_of-self
invariant_of-self c =
    let p = c.self.inside in
    let cell = c.args.cell in
    let put = c.put_number.ensures in
    let pushed = c.push_reserved.ensures in
    let absent = subst (λ l. place_in l cell ≡ length l) (sym (ap (λ s. s.cells) c.self.view_is)) c.requires.absent in
    let number : c.len.result + 1 ≡ length p.cells.items + 1 = omega (arith, c.len.ensures, p.cells.ok.0) in
    index_push p.blocks c.put_number.new.blocks p.far c.put_number.new.far p.cells c.push_reserved.new.self p.spare cell
    c.self.invariant (omega (arith, c.requires.room, ap (λ s. s.spare) c.self.view_is)) absent
    put.paged put.owner put.owners put.slots (λ x. put.numbers x ∙ ap (λ n. if same_cell cell x then n else number_or p.blocks x (far_number p.far x)) number) put.room
    pushed.items pushed.len pushed.capacity

pub returns-clause-cells : goal.returns-clause-cells
returns-clause-cells c =
    let cells = c.args.self.now.cells in
    c.push_reserved.ensures.items ∙ ap (λ s. s.cells ++ c.args.cell ∷ []) c.self.view_is ∙ sym (with_new cells c.args.cell (place_absent cells c.args.cell c.requires.absent))
