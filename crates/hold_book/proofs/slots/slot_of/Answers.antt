use Rattle.hold_book.specs.Slots.{slot_of}
use Rattle.hold_book.proofs.slots.slot_of.Goals as goal

pub returns-clause-at : goal.returns-clause-at
unfolding slot_of
returns-clause-at c = cc
