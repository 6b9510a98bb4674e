use Rattle.std.proofs.Common.{◌≡◌, ℕ, ◌<◌, ◌≤◌, ◌&&◌, ◌||◌, get_or}
use Rattle.static_steps.specs.Squares.{leads_in}
use Rattle.static_steps.proofs.closure.close_through.Given as goal

abbrev pub invariant-loop-row : goal.invariant-loop-row
invariant-loop-row l =
    ((a b : ℕ) → a < l.row-index → leads_in l.rows a b ≡ (leads_in l.initial.rows a b || (leads_in l.initial.rows a l.through && leads_in l.initial.rows l.through b)))
    × ((a : ℕ) → l.row-index ≤ a → get_or l.rows a 0 ≡ get_or l.initial.rows a 0)
