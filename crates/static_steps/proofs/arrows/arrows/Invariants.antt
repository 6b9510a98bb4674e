use Rattle.std.proofs.Common.{◌≡◌, ℕ, length, take}
use Rattle.teb_rules.specs.Steps.{arrow}
use Rattle.static_steps.specs.Profiles.{profiles_of}
use Rattle.static_steps.specs.Squares.{leads_in}
use Rattle.static_steps.proofs.arrows.arrows.Given as goal

abbrev pub invariant-loop-kind : goal.invariant-loop-kind
invariant-loop-kind l =
    (length l.rows.items ≡ l.tables) × ((a b : ℕ) → leads_in l.rows.items a b ≡ arrow (profiles_of l.profiles (take l.kind-index l.under)) a b)
