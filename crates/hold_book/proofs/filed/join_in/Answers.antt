use Rattle.std.proofs.Common.{◌∙◌}
use Rattle.teb_rules.specs.declared.names.Cell.{Cell}
use Rattle.teb_rules.specs.names.Cells.{cell_cmp}
use Rattle.sorted_multimap.specs.Multimap.{values_in}
use Rattle.hold_book.specs.Books.{accessed}
use Rattle.hold_book.proofs.Filing.{put_joined, edited_cell, filed_join}
use Rattle.hold_book.proofs.filed.join_in.Goals as goal

pub join_by_number-requires-clause-ascending : goal.join_by_number-requires-clause-ascending
join_by_number-requires-clause-ascending c = c.requires.filed.ascending c.args.cell

pub returns-clause-holds : goal.returns-clause-holds
returns-clause-holds c joined x =
    let f = λ (y : Cell). values_in cell_cmp c.args.holds.now y in
    c.join_by_number.ensures.values joined x
    ∙ edited_cell f c.args.cell (accessed c.args.t c.args.wrote) _ (put_joined c.args.t c.args.wrote (f c.args.cell) (c.requires.filed.ascending c.args.cell)) x

pub returns-clause-filed : goal.returns-clause-filed
returns-clause-filed c = filed_join c.args.holds.now _ c.args.cell c.args.t c.args.wrote c.join_by_number.result c.requires.filed (λ joined x. returns-clause-holds c joined x)
    c.join_by_number.ensures.kept
