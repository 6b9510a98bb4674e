use Rattle.std.proofs.Common.{◌≡◌, ◌++◌, drop, reverse}
use Rattle.serial_order.specs.Commits.{commits_in, txn_numbers}
use Rattle.serial_order.proofs.serial.order_of_commits.Given as goal

abbrev pub invariant-loop-event : goal.invariant-loop-event
invariant-loop-event l = txn_numbers l.txns.items ++ commits_in (drop l.event-index l.event-items) ≡ commits_in (reverse l.history.events)
