-- The sessions that hold a transaction.
use Rattle.std.specs.Prelude.{◌≡◌, ◌≢◌, ℕ, Bool, List, filter, None, is_some}
use Rattle.teb_rules.specs.declared.names.TheConstants.{SESSIONS}
use Rattle.teb_rules.specs.declared.history.Event.{Event}
use Rattle.teb_rules.specs.history.Phases.{held, numbers}

abbrev pub is_holder : List Event → ℕ → Bool
is_holder H n = is_some (held H n)

-- in ascending number
abbrev pub holders : List Event → List ℕ
holders H = filter (is_holder H) (numbers SESSIONS)

-- session s holds no transaction any more, and each other session holds what it held
pub record IsReleased (s : ℕ) (H K : List Event) : Type 0 where
  pub none : held K s ≡ None
  pub others : (n : ℕ) → n ≢ s → held K n ≡ held H n
