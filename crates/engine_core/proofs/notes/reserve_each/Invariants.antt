use Rattle.std.specs.Prelude.{◌≤◌}
use Rattle.engine_core.proofs.Noting.{AreDone, IsRoomy}
use Rattle.engine_core.proofs.notes.reserve_each.Given as goal

abbrev pub invariant-loop-control : goal.invariant-loop-control
invariant-loop-control g l =
    let old = l.initial.control-items in
    AreDone (λ n c. IsRoomy g.K.Control.node_number g.K.Control.stands old n c × (l.n ≤ g.K.Control.spare c)) old l.control-items l.control-index
