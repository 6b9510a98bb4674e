use Rattle.std.proofs.Common.{◌≡◌}
use Rattle.file_trials.proofs.device.write_pages.Given as goal

abbrev pub invariant-loop : goal.invariant-loop
invariant-loop l = l.disk.mirror.capacity ≡ l.fn.disk.mirror.capacity
