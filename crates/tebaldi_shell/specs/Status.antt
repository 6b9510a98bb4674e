-- The exit code of a run.
use Rattle.std.specs.Prelude.{ℕ, true, false}
use Rattle.shell_runner.specs.declared.ended.EndStatus.{EndStatus}
use Rattle.shell_runner.specs.declared.ended.EndStatus.TheVariants.{Done, Failed}
use Rattle.shell_runner.specs.declared.ended.RunError.TheVariants as errors

-- 7 if a line was bad
abbrev pub code_of : EndStatus → ℕ
code_of (Done false) = 0
code_of (Done true) = 7
code_of (Failed errors.ReadFault) = 3
code_of (Failed errors.WriteFault) = 4
code_of (Failed errors.TooLong) = 5
code_of (Failed errors.OutOfMemory) = 8
code_of (Failed errors.DiskFault) = 15
