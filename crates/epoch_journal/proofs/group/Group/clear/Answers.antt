use Rattle.std.proofs.Common.{[], sym, ap, length}
use Rattle.epoch_journal.proofs.Bodies.{no_bodies, records_told, told_again}
use Rattle.epoch_journal.proofs.group.Group.clear.Goals as goal

pub invariant_of-self : goal.invariant_of-self
invariant_of-self c =
    let none = no_bodies _ c.clear.ensures.items in
    record { bodies = told_again [] _ none; counted = sym (ap length (records_told [] _ none)) }

pub returns-clause-records : goal.returns-clause-records
returns-clause-records c = records_told [] _ (no_bodies _ c.clear.ensures.items)
