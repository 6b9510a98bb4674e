use Rattle.std.proofs.Common.{◌-◌, ◌≡◌, ◌≤◌, length, take, drop}
use Rattle.crash_disk.specs.Calls.{IsUpTo}
use Rattle.crash_disk.specs.Disk.{IsQuiet}
use Rattle.epoch_journal.proofs.range.fill.Given as goal

abbrev pub invariant-loop-filled : goal.invariant-loop-filled
invariant-loop-filled g l = record {
  within : l.filled ≤ length l.buf;
  front : take l.filled l.buf ≡ take l.filled (drop l.at (g.D.Disk.seen l.fn.disk));
  quiet : IsQuiet g.D.Disk.seen g.D.Disk.may_leave g.D.Disk.moment g.D.Disk.left_since g.D.Disk.faults g.D.Disk.capacity l.fn.disk l.disk;
  granted : g.D.Disk.refusals l.disk ≡ g.D.Disk.refusals l.fn.disk;
  calls : IsUpTo l.filled 0 (g.D.Disk.tally l.fn.disk) (g.D.Disk.tally l.disk);
}

abbrev pub decreases-loop-filled : goal.decreases-loop-filled
decreases-loop-filled g l = length l.initial.buf - l.filled
