use Rattle.session_tasks.proofs.Placing.{NoneBefore}
use Rattle.session_tasks.proofs.place.place_in.Given as goal

abbrev pub invariant-loop-i : goal.invariant-loop-i
invariant-loop-i l = NoneBefore l.scripts l.session.0 l.i
