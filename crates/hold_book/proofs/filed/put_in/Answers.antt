use Rattle.std.proofs.Common.{◌∙◌}
use Rattle.teb_rules.specs.declared.names.Cell.{Cell}
use Rattle.teb_rules.specs.names.Cells.{cell_cmp}
use Rattle.sorted_multimap.specs.Multimap.{values_in}
use Rattle.hold_book.specs.Books.{accessed}
use Rattle.hold_book.proofs.Filing.{put_again, put_unless, edited_cell, filed_access}
use Rattle.hold_book.proofs.filed.put_in.Goals as goal

pub put_by_number-requires-clause-ascending : goal.put_by_number-requires-clause-ascending
put_by_number-requires-clause-ascending c = c.requires.filed.ascending c.args.cell

pub add_by_number-requires-clause-ascending : goal.add_by_number-requires-clause-ascending
add_by_number-requires-clause-ascending c = c.requires.filed.ascending c.args.cell

pub returns-then-wrote-clause-holds : goal.returns-then-wrote-clause-holds
returns-then-wrote-clause-holds c x =
    let f = λ (y : Cell). values_in cell_cmp c.args.holds.now y in
    c.put_by_number.ensures.values x ∙ edited_cell f c.args.cell (accessed c.args.t c.args.wrote) _ (put_again c.args.t c.args.wrote (f c.args.cell) c.if-wrote.true) x

pub returns-then-wrote-clause-filed : goal.returns-then-wrote-clause-filed
returns-then-wrote-clause-filed c = filed_access c.args.holds.now _ c.args.cell c.args.t c.args.wrote c.requires.filed (λ x. returns-then-wrote-clause-holds c x)

pub returns-else-wrote-clause-holds : goal.returns-else-wrote-clause-holds
returns-else-wrote-clause-holds c x =
    let f = λ (y : Cell). values_in cell_cmp c.args.holds.now y in
    c.add_by_number.ensures.values x ∙ edited_cell f c.args.cell (accessed c.args.t c.args.wrote) _
    (put_unless c.args.t c.args.wrote (f c.args.cell) _ c.if-wrote.false (c.requires.filed.ascending c.args.cell) c.add_by_number.ensures.added) x

pub returns-else-wrote-clause-filed : goal.returns-else-wrote-clause-filed
returns-else-wrote-clause-filed c = filed_access c.args.holds.now _ c.args.cell c.args.t c.args.wrote c.requires.filed (λ x. returns-else-wrote-clause-holds c x)
