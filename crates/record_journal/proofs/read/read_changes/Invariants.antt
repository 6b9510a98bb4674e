use Rattle.std.proofs.Common.{◌≡◌, ◌-◌, ◌+◌, ◌*◌, length}
use Rattle.record_journal.specs.Format.{changes_of}
use Rattle.record_journal.proofs.Reading.{prefixed}
use Rattle.record_journal.proofs.read.read_changes.Given as goal

abbrev pub invariant-loop : goal.invariant-loop
invariant-loop l = record {
  so_far : prefixed l.changes.items (changes_of (l.count - l.counter) l.rest) ≡ changes_of l.count l.bytes;
  size : 14 * length l.changes.items + length l.rest ≡ length l.bytes;
}
