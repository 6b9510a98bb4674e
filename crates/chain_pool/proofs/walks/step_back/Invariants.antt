use Rattle.std.proofs.Common.{◌≡◌}
use Rattle.chain_pool.specs.Threads.{steps}
use Rattle.chain_pool.specs.Places.{previous_at}
use Rattle.chain_pool.proofs.walks.step_back.Given as goal

abbrev pub invariant-loop-step : goal.invariant-loop-step
invariant-loop-step l = l.place ≡ steps (previous_at l.places) l._step l.start
