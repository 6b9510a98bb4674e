use Rattle.std.proofs.Common.{◌≡◌, ◌++◌, drop, reverse}
use Rattle.phase_api.specs.FactsView.{setup_of, events_of}
use Rattle.serial_order.specs.Commits.{commits_in}
use Rattle.serial_order.specs.Keys.{entry_numbers, HaveKeys}
use Rattle.serial_order.proofs.booked.Booked.entries.Given as goal

abbrev pub invariant-loop-i : goal.invariant-loop-i
invariant-loop-i l = record {
  numbers : entry_numbers l.entries.items ++ commits_in (drop l.i (reverse (events_of l.self.facts.now))) ≡ commits_in (reverse (events_of l.self.facts.now));
  keys : HaveKeys (setup_of l.self.facts.now) (events_of l.self.facts.now) l.numbers.items l.entries.items;
}
