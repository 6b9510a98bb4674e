use Rattle.std.proofs.Common.{ℕ, ◌<◌, ◌≤◌}
use Rattle.teb_rules.specs.Epochs.{IsUntold}
use Rattle.store_server.proofs.obstacles.first_untold.Given as goal

abbrev pub invariant-loop-i : goal.invariant-loop-i
invariant-loop-i l = (m : ℕ) → 0 < m → m ≤ l.i → ¬ IsUntold l.history.events m
