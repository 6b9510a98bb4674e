use Rattle.std.proofs.Common.{◌≡◌, ◌-◌, ◌*◌, ◌≤◌, take, drop}
use Rattle.crash_disk.specs.Calls.{IsUpTo}
use Rattle.crash_disk.specs.Disk.{IsQuiet}
use Rattle.record_journal.specs.Format.{reading}
use Rattle.record_journal.specs.Views.{record_lists}
use Rattle.record_journal.proofs.Spelled.{push_all}
use Rattle.epoch_journal.proofs.records.read_on.Given as goal

abbrev pub invariant-loop-records : goal.invariant-loop-records
invariant-loop-records g l = record {
  so_far : push_all (record_lists l.records.items) (reading 0 l.place (take (l.until - l.place) (drop l.place (g.D.Disk.seen l.fn.disk)))) ≡ reading 0 l.at
      (take (l.until - l.at) (drop l.at (g.D.Disk.seen l.fn.disk)));
  from : l.at ≤ l.place;
  within : l.place ≤ l.until;
  quiet : IsQuiet g.D.Disk.seen g.D.Disk.may_leave g.D.Disk.moment g.D.Disk.left_since g.D.Disk.faults g.D.Disk.capacity l.fn.disk l.disk;
  granted : g.D.Disk.refusals l.disk ≡ g.D.Disk.refusals l.fn.disk;
  calls : IsUpTo (2 * (l.place - l.at)) 0 (g.D.Disk.tally l.fn.disk) (g.D.Disk.tally l.disk);
}

abbrev pub decreases-loop-records : goal.decreases-loop-records
decreases-loop-records g l = l.until - l.place
