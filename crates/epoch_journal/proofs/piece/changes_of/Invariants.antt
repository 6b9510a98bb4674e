use Rattle.std.proofs.Common.{◌≡◌, ◌+◌, ◌≤◌, drop, length}
use Rattle.epoch_journal.specs.Telling.{checkpoint_of}
use Rattle.epoch_journal.proofs.piece.changes_of.Given as goal

abbrev pub invariant-loop-i : goal.invariant-loop-i
invariant-loop-i l = record {
  within : l.i ≤ length l.rows;
  count : length l.changes.items + l.i ≡ length l.rows;
  changes : l.changes.items ≡ checkpoint_of (drop l.i l.rows);
}

abbrev pub decreases-loop-i : goal.decreases-loop-i
decreases-loop-i l = l.i
