use Rattle.std.proofs.Common.{◌≡◌, ◌∙◌, sym, ap, subst, Bool, List, [], Option, Some, None}
use Rattle.teb_rules.specs.declared.names.Cell.{Cell}
use Rattle.teb_rules.specs.names.Cells.{cell_cmp}
use Rattle.sorted_multimap.specs.Multimap.{values_in}
use Rattle.hold_book.specs.declared.Hold.{Hold}
use Rattle.hold_book.specs.declared.slots.Alone.{Alone}
use Rattle.hold_book.specs.Slots.{only_hold, only_or}
use Rattle.hold_book.specs.Books.{IsApart, shown_in, accessed}
use Rattle.hold_book.proofs.FreeSlots.{held_nowhere}
use Rattle.hold_book.proofs.Entering.{edited_slots, edited_others, apart_slots, apart_others, held_anew, held_elsewhere, nothing_in}
use Rattle.hold_book.proofs.entries.access_in.Goals as goal
use Rattle.hold_book.proofs.entries.access_in.Goals.{then-join_in-via-then-join_in, then-join_in-via-else-join_in+then-take_free}

pub returns-then-join_in-clause-apart : goal.returns-then-join_in-clause-apart
returns-then-join_in-clause-apart c =
    let ss = c.args.slots.now in
    let o = c.args.others.now in
    elim c.then-join_in.branch [
      | then-join_in-via-then-join_in w ↦
          let none = held_elsewhere c.args.cell ss o c.requires.apart (sym w.if-join_in.true ∙ c.join_in.ensures.held) in
          subst (λ (l : List (Option Alone)). IsApart l c.join_in.new.holds) (sym w.slots-is)
          (apart_others c.args.cell ss o c.join_in.new.holds (accessed c.args.t c.args.wrote) c.requires.apart c.join_in.ensures.filed none (c.join_in.ensures.holds w.if-join_in.true))
      | then-join_in-via-else-join_in+then-take_free w ↦
          let none = nothing_in _ (sym w.if-join_in.false ∙ c.join_in.ensures.held) in
          subst (λ (l : List (Option Alone)). IsApart l c.join_in.new.holds) (sym w.slots-is)
          (subst (IsApart w.take_free.new.slots) (sym (c.join_in.ensures.kept w.if-join_in.false))
          (apart_slots c.args.cell ss w.take_free.new.slots o _ c.requires.apart (w.take_free.ensures.holds w.if-take_free.true) none))
    ]

pub returns-then-join_in-clause-holds : goal.returns-then-join_in-clause-holds
returns-then-join_in-clause-holds c x =
    let ss = c.args.slots.now in
    let o = c.args.others.now in
    let t = c.args.t in
    let f = λ (y : Cell). values_in cell_cmp o y in
    elim c.then-join_in.branch [
      | then-join_in-via-then-join_in w ↦
          let none = held_elsewhere c.args.cell ss o c.requires.apart (sym w.if-join_in.true ∙ c.join_in.ensures.held) in
          ap (λ (l : List (Option Alone)). shown_in l c.join_in.new.holds x) w.slots-is
          ∙ edited_others c.args.cell (only_hold ss) f (λ (y : Cell). values_in cell_cmp c.join_in.new.holds y) (accessed t c.args.wrote) none (c.join_in.ensures.holds w.if-join_in.true) x
      | then-join_in-via-else-join_in+then-take_free w ↦
          let made : Bool → Hold = λ b. record { txn = t; wrote = b } in
          let none : f c.args.cell ≡ [] = nothing_in _ (sym w.if-join_in.false ∙ c.join_in.ensures.held) in
          let free : only_hold ss c.args.cell ≡ None = held_nowhere c.args.cell _ (sym w.take_free.ensures.free ∙ w.if-take_free.true) in
          (λ j. shown_in (w.slots-is j) (c.join_in.ensures.kept w.if-join_in.false j) x)
          ∙ edited_slots c.args.cell (only_hold ss) (only_hold w.take_free.new.slots) f (accessed t c.args.wrote) (Some (made c.args.wrote)) (w.take_free.ensures.holds w.if-take_free.true)
          (held_anew t c.args.wrote ∙ ap (accessed t c.args.wrote) (sym none) ∙ ap (λ (k : Option Hold). accessed t c.args.wrote (only_or k (f c.args.cell))) (sym free)) x
    ]
