use Rattle.std.proofs.Common.{◌≡◌, ◌≤◌, length, take}
use Rattle.crash_runner.proofs.start.copy_of.Given as goal

abbrev pub invariant-loop-i : goal.invariant-loop-i
invariant-loop-i l = record {
  within : l.i ≤ length l.names;
  first : l.copy ≡ take l.i l.names;
}
