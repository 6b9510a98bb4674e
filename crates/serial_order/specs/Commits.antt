-- Transactions as numbers, and those that events commit.
use Rattle.std.specs.Prelude.{ℕ, map, List, [], ◌∷◌}
use Rattle.teb_rules.specs.declared.names.Txn.{Txn}
use Rattle.teb_rules.specs.declared.history.Event.{Event}
use Rattle.teb_rules.specs.declared.history.Event.TheVariants.{Done}

abbrev pub txn_numbers : List Txn → List ℕ
txn_numbers ts = map (λ t. t.0) ts

-- in a list of events with the oldest first
abbrev pub commits_in : List Event → List ℕ
commits_in [] = []
commits_in (Done t ∷ es) = t.0 ∷ commits_in es
commits_in (_ ∷ es) = commits_in es
