use Rattle.std.proofs.Common.{◌≡◌, ◌<◌, ℕ, Some}
use Rattle.chain_pool.specs.Threads.{steps}
use Rattle.chain_pool.specs.Places.{slot_at, sibling_at, cell_in}
use Rattle.chain_pool.proofs.walks.has_cell.Given as goal

abbrev pub invariant-loop-step : goal.invariant-loop-step
invariant-loop-step l = record {
  place : l.place ≡ steps (sibling_at l.places) l._step l.fn.own.first;
  others : (n : ℕ) → n < l._step → cell_in (slot_at l.places (steps (sibling_at l.places) n l.fn.own.first)) ≡ Some l.cell → ⊥;
}
