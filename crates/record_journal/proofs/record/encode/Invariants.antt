use Rattle.std.proofs.Common.{◌≡◌, ◌++◌, length, take}
use Rattle.std.specs.List.{AllByRecursion}
use Rattle.std.specs.Int.{w32, to_be_bytes}
use Rattle.record_journal.specs.Format.{ChangeFits, entries}
use Rattle.record_journal.proofs.record.encode.Given as goal

abbrev pub invariant-loop-change : goal.invariant-loop-change
invariant-loop-change l = record {
  written : l.bytes.items ≡ to_be_bytes w32 (length l.changes) ++ entries (take l.change-index l.changes);
  fit : AllByRecursion ChangeFits (take l.change-index l.changes);
}
