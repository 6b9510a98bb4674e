use Rattle.std.proofs.Common.{◌≡◌}
use Rattle.file_trials.proofs.device.a_file_that_is_renewed_never_wears_out.Given as goal

abbrev pub invariant-loop-byte : goal.invariant-loop-byte
invariant-loop-byte g l = l.disk.mirror.capacity ≡ 4294967296
