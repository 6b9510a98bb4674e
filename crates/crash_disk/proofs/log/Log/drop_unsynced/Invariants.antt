use Rattle.std.proofs.Common.{◌≡◌, ◌≤◌, length}
use Rattle.crash_disk.specs.Log.{contents, safe_contents, byte_count}
use Rattle.crash_disk.proofs.log.Log.drop_unsynced.Given as goal

abbrev pub invariant-loop : goal.invariant-loop
invariant-loop l = record {
  safe : safe_contents l.self.steps ≡ safe_contents l.fn.self.steps;
  room : l.self.room ≡ l.fn.self.room;
  fewer : length l.self.steps ≤ length l.fn.self.steps;
  fewer_bytes : byte_count l.self.steps ≤ byte_count l.fn.self.steps;
  shorter : length (contents l.self.steps) ≤ length (contents l.fn.self.steps);
}

abbrev pub decreases-loop : goal.decreases-loop
decreases-loop l = length l.self.steps
