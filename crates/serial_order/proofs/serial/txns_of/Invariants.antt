use Rattle.std.proofs.Common.{◌≡◌, ◌++◌, drop}
use Rattle.serial_order.specs.Commits.{txn_numbers}
use Rattle.serial_order.specs.Keys.{entry_numbers}
use Rattle.serial_order.proofs.serial.txns_of.Given as goal

abbrev pub invariant-loop-entry : goal.invariant-loop-entry
invariant-loop-entry l = txn_numbers l.txns.items ++ entry_numbers (drop l.entry-index l.entries) ≡ entry_numbers l.entries
