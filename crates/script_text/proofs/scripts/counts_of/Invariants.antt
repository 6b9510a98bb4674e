use Rattle.std.proofs.Common.{ℕ, ◌<◌, ◌≤◌, get_or}
use Rattle.script_text.proofs.scripts.counts_of.Given as goal

-- no session has more lines than were counted
abbrev pub invariant-loop-line : goal.invariant-loop-line
invariant-loop-line l = (k : ℕ) → k < 256 → get_or l.counts k 0 ≤ l.line-index
