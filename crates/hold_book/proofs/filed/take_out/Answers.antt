use Rattle.std.proofs.Common.{◌∙◌, refl}
use Rattle.teb_rules.specs.declared.names.Cell.{Cell}
use Rattle.teb_rules.specs.names.Cells.{cell_cmp}
use Rattle.sorted_multimap.specs.Multimap.{values_in}
use Rattle.hold_book.specs.Books.{released}
use Rattle.hold_book.proofs.Filing.{edited_cell, filed_release}
use Rattle.hold_book.proofs.filed.take_out.Goals as goal

pub take_by_number-requires : goal.take_by_number-requires
take_by_number-requires c = c.requires.ascending c.args.cell

pub returns-clause-holds : goal.returns-clause-holds
returns-clause-holds c x = c.take_by_number.ensures.values x ∙ edited_cell (λ (y : Cell). values_in cell_cmp c.args.holds.now y) c.args.cell (released c.args.t.0) _ refl x

pub returns-clause-filed : goal.returns-clause-filed
returns-clause-filed c = filed_release c.args.holds.now _ c.args.cell c.args.t c.requires (λ x. returns-clause-holds c x)
