use Rattle.std.proofs.Common.{◌∙◌, ap, List, Option, None, length, ◌<◌, arith}
use Rattle.hold_book.specs.declared.slots.Alone.{Alone}
use Rattle.hold_book.specs.Slots.{slot_of, hold_in, only_hold}
use Rattle.hold_book.proofs.FreeSlots.{resized}
use Rattle.hold_book.proofs.slots.make_slots.Goals as goal

pub returns-in_ok-resize-clause-holds : goal.returns-in_ok-resize-clause-holds
returns-in_ok-resize-clause-holds c x =
    let few : length c.args.slots.now.items < 1024 = omega arith in
    ap (λ (ss : List (Option Alone)). only_hold ss x) c.in_ok-resize.ensures.items ∙ ap (hold_in x) (resized None c.args.slots.now.items 1024 _ (slot_of x) few)
