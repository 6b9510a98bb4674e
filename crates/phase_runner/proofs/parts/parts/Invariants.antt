use Rattle.std.proofs.Common.{length}
use Rattle.phase_runner.proofs.Parted.{IsCut}
use Rattle.phase_runner.proofs.parts.parts.Given as goal

abbrev pub invariant-loop-part : goal.invariant-loop-part
invariant-loop-part l = IsCut l.bytes l.rest l.parts.items

abbrev pub decreases-loop-part : goal.decreases-loop-part
decreases-loop-part l = length l.rest
