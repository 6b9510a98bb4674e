use Rattle.std.proofs.Common.{◌∙◌, sym}
use Rattle.cell_index.proofs.ListEdits.{new_list, known_list}
use Rattle.dependency_book.proofs.cell_lists.place_for.Goals as goal

pub returns-then-place-len-clause-readers : goal.returns-then-place-len-clause-readers
returns-then-place-len-clause-readers c = c.begin.ensures.lists
    ∙ sym (new_list c.args.cells.now.cells c.args.readers.now.lists c.args.cell (sym c.add-place.ensures.place ∙ c.if-place-len.true ∙ c.len-len.ensures.len))

pub returns-then-place-len-clause-writers : goal.returns-then-place-len-clause-writers
returns-then-place-len-clause-writers c = c.begin-then-place-len.ensures.lists
    ∙ sym (new_list c.args.cells.now.cells c.args.writers.now.lists c.args.cell (sym c.add-place.ensures.place ∙ c.if-place-len.true ∙ c.len-len.ensures.len))

pub returns-else-place-len-clause-readers : goal.returns-else-place-len-clause-readers
returns-else-place-len-clause-readers c = sym
    (known_list c.args.cells.now.cells c.args.readers.now.lists c.args.cell (λ p. c.if-place-len.false (c.add-place.ensures.place ∙ p ∙ sym c.len-len.ensures.len)))

pub returns-else-place-len-clause-writers : goal.returns-else-place-len-clause-writers
returns-else-place-len-clause-writers c = sym
    (known_list c.args.cells.now.cells c.args.writers.now.lists c.args.cell (λ p. c.if-place-len.false (c.add-place.ensures.place ∙ p ∙ sym c.len-len.ensures.len)))
