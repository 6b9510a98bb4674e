use Rattle.engine_core.proofs.Falling.{HasFallen}
use Rattle.engine_core.proofs.falls.fall.Given as goal

abbrev pub invariant-loop-i : goal.invariant-loop-i
invariant-loop-i g l = HasFallen l.fn.state l.state l.fn.t.0 l.fn.cause l.i
