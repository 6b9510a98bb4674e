use Rattle.std.proofs.Common.{◌≡◌, suc, get_or, filter, map}
use Rattle.teb_rules.specs.Tree.{below}
use Rattle.teb_rules.specs.Steps.{greatest}
use Rattle.static_steps.specs.Squares.{is_ahead}
use Rattle.static_steps.proofs.chains.longest_to.Given as goal

abbrev pub invariant-loop-a : goal.invariant-loop-a
invariant-loop-a l = l.longest ≡ greatest (map (λ a. suc (get_or l.chains a 0)) (filter (is_ahead l.rows l.b) (below l.a)))
