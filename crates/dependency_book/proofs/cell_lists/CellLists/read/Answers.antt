use Rattle.std.proofs.Common.{◌∙◌, ◌++◌, ◌∷◌, [], cond, ap}
use Rattle.teb_rules.specs.names.Cells.{same_cell}
use Rattle.dependency_book.specs.Places.{Shown, readers_of, writers_of}
use Rattle.cell_index.proofs.ListEdits.{placed, placed_within}
use Rattle.dependency_book.proofs.Places.{pushed}
use Rattle.dependency_book.proofs.cell_lists.CellLists.read.Goals as goal

pub push-requires-clause-within : goal.push-requires-clause-within
push-requires-clause-within c =
    let b = c.self.inside in
    let n = c.place_for-place in
    placed_within b.cells.cells b.readers.lists c.args.cell c.self.invariant.readers n.new.cells.cells n.new.readers.lists n.ensures.cells n.ensures.readers n.result n.ensures.place

pub returns-clause-readers : goal.returns-clause-readers
returns-clause-readers c x =
    let b = c.self.inside in
    let n = c.place_for-place in
    pushed b.cells.cells b.readers.lists c.args.cell c.self.invariant.readers n.new.cells.cells n.new.readers.lists c.push.new.self.lists n.result c.args.pair n.ensures.cells n.ensures.readers
    n.ensures.place c.push.ensures.lists x
    ∙ ap (λ (s : Shown). cond (same_cell c.args.cell x) (readers_of s x ++ c.args.pair ∷ []) (readers_of s x)) c.self.view_is

pub returns-clause-writers : goal.returns-clause-writers
returns-clause-writers c x =
    let b = c.self.inside in
    let n = c.place_for-place in
    placed b.cells.cells b.writers.lists c.args.cell c.self.invariant.writers n.new.cells.cells n.new.writers.lists n.ensures.cells n.ensures.writers x
    ∙ ap (λ (s : Shown). writers_of s x) c.self.view_is
