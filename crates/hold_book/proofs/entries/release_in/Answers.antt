use Rattle.std.proofs.Common.{◌≡◌, ◌∙◌, sym, ap, Option, Some, None}
use Rattle.std.specs.Option.{is_some}
use Rattle.teb_rules.specs.declared.names.Cell.{Cell}
use Rattle.teb_rules.specs.names.Cells.{cell_cmp}
use Rattle.sorted_multimap.specs.Multimap.{values_in}
use Rattle.hold_book.specs.declared.Hold.{Hold}
use Rattle.hold_book.specs.Slots.{only_hold, only_or}
use Rattle.hold_book.specs.Books.{released}
use Rattle.hold_book.proofs.Entering.{edited_slots, let_go}
use Rattle.hold_book.proofs.entries.release_in.Goals as goal

pub returns-then-eq-clause-holds : goal.returns-then-eq-clause-holds
returns-then-eq-clause-holds c =
    let f = λ (x : Cell). values_in cell_cmp c.args.others.now x in
    let told : only_hold c.args.slots.now c.args.cell ≡ Some c.in-Some.only = sym c.only_hold.ensures ∙ c.in-Some.is in
    edited_slots c.args.cell (only_hold c.args.slots.now) (only_hold c.clear.new.slots) f (released c.args.t.0) None c.clear.ensures.holds
    (c.requires.alone c.args.cell (ap is_some told) ∙ let_go c.args.t.0 c.in-Some.only (sym c.eq.ensures ∙ c.if-eq.true)
    ∙ ap (λ (k : Option Hold). released c.args.t.0 (only_or k (f c.args.cell))) (sym told))
