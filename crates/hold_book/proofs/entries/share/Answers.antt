use Rattle.std.proofs.Common.{◌≡◌, ◌∙◌, sym, ap, List, [], Option, None}
use Rattle.std.specs.Option.{is_some}
use Rattle.teb_rules.specs.declared.names.Cell.{Cell}
use Rattle.teb_rules.specs.names.Cells.{cell_cmp}
use Rattle.sorted_multimap.specs.Multimap.{values_in}
use Rattle.hold_book.specs.declared.Hold.{Hold}
use Rattle.hold_book.specs.Slots.{only_hold, only_or}
use Rattle.hold_book.specs.Books.{accessed}
use Rattle.hold_book.proofs.Entering.{edited, twice, held_anew}
use Rattle.hold_book.proofs.entries.share.Goals as goal

pub returns-clause-holds : goal.returns-clause-holds
returns-clause-holds c =
    let ss = c.args.slots.now in
    let o = c.args.others.now in
    let first = c.args.first in
    let none : values_in cell_cmp o c.args.cell ≡ [] = c.requires.apart.alone c.args.cell (ap is_some c.requires.first) in
    let t = c.args.t in
    let wrote = c.args.wrote in
    edited c.args.cell (only_hold ss) (only_hold c.clear.new.slots) (λ (x : Cell). values_in cell_cmp o x) (λ (x : Cell). values_in cell_cmp c.put_in-2.new.holds x) (accessed t wrote) None
    (λ (hs : List Hold). accessed t wrote (accessed first.txn first.wrote hs)) c.clear.ensures.holds
    (twice c.args.cell (λ (x : Cell). values_in cell_cmp o x) (λ (x : Cell). values_in cell_cmp c.put_in.new.holds x) (λ (x : Cell). values_in cell_cmp c.put_in-2.new.holds x)
    (accessed first.txn first.wrote) (accessed t wrote) c.put_in.ensures.holds c.put_in-2.ensures.holds)
    (ap (λ (hs : List Hold). accessed t wrote (accessed first.txn first.wrote hs)) none ∙ ap (accessed t wrote) (sym (held_anew first.txn first.wrote))
    ∙ ap (λ (k : Option Hold). accessed t wrote (only_or k (values_in cell_cmp o c.args.cell))) (sym c.requires.first))
