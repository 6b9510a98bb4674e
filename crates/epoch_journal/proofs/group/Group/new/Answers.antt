use Rattle.std.proofs.Common.{[], sym, ap, length}
use Rattle.epoch_journal.proofs.Bodies.{no_bodies, records_told, told_again}
use Rattle.epoch_journal.proofs.group.Group.new.Goals as goal

pub invariant_of-result : goal.invariant_of-result
invariant_of-result c =
    let none = no_bodies _ c.new.ensures.items in
    record { bodies = told_again [] _ none; counted = sym (ap length (records_told [] _ none)) }

pub returns : goal.returns
returns c = records_told [] _ (no_bodies _ c.new.ensures.items)
