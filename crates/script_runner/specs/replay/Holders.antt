-- The sessions that hold a transaction.
use Rattle.std.specs.Prelude.{ℕ, zero, suc, ◌+◌, cond, is_some, List, [], ◌∷◌, ◌++◌}
use Rattle.teb_rules.specs.declared.names.Session.{Session}
use Rattle.teb_rules.specs.declared.names.Request.{Request}
use Rattle.teb_rules.specs.declared.names.Request.TheVariants.{End}
use Rattle.teb_rules.specs.declared.history.Event.{Event}
use Rattle.teb_rules.specs.history.Phases.{held}

-- session s, where it holds one
abbrev pub holder_at : List Event → ℕ → List Session
holder_at H s = cond (is_some (held H s)) (record { 0 = s } ∷ []) []

-- those of the n sessions from s on
abbrev pub holders_from : ℕ → ℕ → List Event → List Session
holders_from zero s H = []
holders_from (suc n) s H = holder_at H s ++ holders_from n (s + 1) H

abbrev pub end_of : Session → Session × Request
end_of s = (s, End)
