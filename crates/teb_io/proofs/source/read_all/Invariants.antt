-- The bytes so far are those that were taken from the source.
use Rattle.std.proofs.Common.{◌≡◌, ◌≤◌, ◌+◌, ◌-◌, length}
use Rattle.std.specs.Io.KnownBytes.{Consumes}
use Rattle.teb_io.proofs.source.read_all.Given as goal

abbrev pub invariant-loop-piece : goal.invariant-loop-piece
invariant-loop-piece g l = record {
  no_fault : g.S.Source.faults l.input ≡ g.S.Source.faults l.initial.input;
  within : length l.bytes.items ≤ l.limit + 1;
  taken : Consumes (g.S.Source.left l.initial.input) (g.S.Source.left l.input) l.bytes.items;
}

abbrev pub decreases-loop-piece : goal.decreases-loop-piece
decreases-loop-piece g l = l.limit + 1 - length l.bytes.items
