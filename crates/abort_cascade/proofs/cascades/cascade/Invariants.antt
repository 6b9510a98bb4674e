use Rattle.std.proofs.Common.{suc, ◌-◌, length}
use Rattle.phase_api.specs.FactsView.{events_of}
use Rattle.abort_cascade.specs.declared.list.TheConstants.{MOST_FALLEN}
use Rattle.abort_cascade.proofs.RoundsOf.{IsStage}
use Rattle.abort_cascade.proofs.cascades.cascade.Given as goal

abbrev pub invariant-loop-t : goal.invariant-loop-t
invariant-loop-t l = IsStage (events_of l.facts) l.t.0 l.fell

abbrev pub decreases-loop-t : goal.decreases-loop-t
decreases-loop-t l = suc MOST_FALLEN - length l.fell
