use Rattle.std.proofs.Common.{ℕ, ◌<◌, ◌≤◌}
use Rattle.tree_switch.specs.Refusals.{IsUnfinished}
use Rattle.tree_switch.proofs.refusal.first_unfinished.Given as goal

abbrev pub invariant-loop-i : goal.invariant-loop-i
invariant-loop-i l = (m : ℕ) → 0 < m → m ≤ l.i → ¬ IsUnfinished l.history.events m
