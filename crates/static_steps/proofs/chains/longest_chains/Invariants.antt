use Rattle.std.proofs.Common.{◌≡◌, ℕ, ◌<◌, length, get_or}
use Rattle.static_steps.specs.Squares.{longest_in}
use Rattle.static_steps.proofs.chains.longest_chains.Given as goal

abbrev pub invariant-loop-links : goal.invariant-loop-links
invariant-loop-links l =
    (length l.chains.items ≡ length l.rows) × (length l.longer.items ≡ length l.rows) × ((b : ℕ) → b < length l.rows → get_or l.chains.items b 0 ≡ longest_in l.rows l._links b)
