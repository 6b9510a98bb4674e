use Rattle.std.proofs.Common.{◌≡◌, ◌∙◌, sym, ap, Bool, [], ◌∷◌, ◌||◌, Option, Some}
use Rattle.std.proofs.lemmas.Bool.{eqb-true}
use Rattle.teb_rules.specs.declared.names.Cell.{Cell}
use Rattle.teb_rules.specs.names.Cells.{cell_cmp}
use Rattle.sorted_multimap.specs.Multimap.{values_in}
use Rattle.hold_book.specs.declared.Hold.{Hold}
use Rattle.hold_book.specs.Slots.{only_hold, only_or}
use Rattle.hold_book.specs.Books.{accessed}
use Rattle.hold_book.proofs.Entering.{edited_slots, held_again}
use Rattle.hold_book.proofs.entries.access_taken.Goals as goal
use Rattle.hold_book.proofs.entries.access_taken.Goals.{then-wrote, else-wrote}

pub returns-after-wrote-clause-holds : goal.returns-after-wrote-clause-holds
returns-after-wrote-clause-holds c =
    let t = c.args.t in
    let h = c.in-Some.hold in
    let f = λ (x : Cell). values_in cell_cmp c.args.others.now x in
    let made : Bool → Hold = λ b. record { txn = t; wrote = b } in
    let either : c.if-wrote.wrote ≡ (c.args.wrote || h.wrote) = elim c.if-wrote.branch [ then-wrote w ↦ cc (w.if-wrote.true, w.wrote-is) | else-wrote w ↦ cc (w.if-wrote.false, w.wrote-is) ] in
    edited_slots c.args.cell (only_hold c.args.slots.now) (only_hold c.take.new.slots) f (accessed t c.args.wrote) (Some (made c.if-wrote.wrote)) c.take.ensures.holds
    (ap (λ (b : Bool). made b ∷ []) either ∙ held_again t c.args.wrote h (eqb-true _ _ (sym c.eq.ensures ∙ c.if-eq.true))
    ∙ ap (λ (k : Option Hold). accessed t c.args.wrote (only_or k (f c.args.cell))) (sym c.in-Some.is ∙ c.only_hold.ensures))
