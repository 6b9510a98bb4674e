use Rattle.std.proofs.Common.{◌≡◌, ℕ, suc, ◌<◌, get_or, map}
use Rattle.teb_rules.specs.Steps.{greatest}
use Rattle.static_steps.specs.Squares.{ahead_in}
use Rattle.static_steps.proofs.chains.lengthen.Given as goal

abbrev pub invariant-loop-b : goal.invariant-loop-b
invariant-loop-b l = (k : ℕ) → k < l.b → get_or l.longer k 0 ≡ greatest (map (λ a. suc (get_or l.chains a 0)) (ahead_in l.rows k))
