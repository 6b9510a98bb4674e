use Rattle.std.proofs.Common.{map, ap}
use Rattle.batch_book.specs.Fields.{row_shown, running_shown}
use Rattle.batch_book.proofs.Telling.{batches_none}
use Rattle.batch_book.proofs.Leaving.{held_none}
use Rattle.batch_book.proofs.Settling.{settled_none}
use Rattle.batch_book.proofs.batches.Batches.new.Goals as goal

pub invariant_of-result : goal.invariant_of-result
invariant_of-result c = record { held = held_none _ _ c.new-3.result.items c.new.ensures.items c.new-2.ensures.items; settled = settled_none _ c.new-3.result.items c.new-3.ensures.items }

pub returns-clause-batches : goal.returns-clause-batches
returns-clause-batches c = λ S n. batches_none _ S n (ap (map (row_shown c.new-3.result.items)) c.new.ensures.items) (ap (map (running_shown c.new-3.result.items)) c.new-2.ensures.items)
