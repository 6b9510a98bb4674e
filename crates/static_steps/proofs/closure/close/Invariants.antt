use Rattle.std.proofs.Common.{◌≡◌, ℕ}
use Rattle.static_steps.specs.Squares.{leads_in, closure}
use Rattle.static_steps.proofs.closure.close.Given as goal

abbrev pub invariant-loop-through : goal.invariant-loop-through
invariant-loop-through l = (a b : ℕ) → leads_in l.rows a b ≡ closure (leads_in l.initial.rows) l.through a b
