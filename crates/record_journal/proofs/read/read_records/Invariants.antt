use Rattle.std.proofs.Common.{◌≡◌, ◌+◌, ◌*◌, ◌≤◌, length}
use Rattle.record_journal.specs.Format.{reading}
use Rattle.record_journal.specs.Views.{record_lists}
use Rattle.record_journal.proofs.Spelled.{push_all}
use Rattle.record_journal.proofs.read.read_records.Given as goal

abbrev pub invariant-loop-behind : goal.invariant-loop-behind
invariant-loop-behind l = record {
  so_far : push_all (record_lists l.records.items) (reading 0 l.at l.rest) ≡ reading 0 0 l.bytes;
  place : l.at + length l.rest ≡ length l.bytes;
  few : 5 * length l.records.items ≤ l.at;
}

abbrev pub decreases-loop-behind : goal.decreases-loop-behind
decreases-loop-behind l = length l.rest
