-- Edges to committed transactions.
use Rattle.std.specs.Prelude.{◌≡◌, ℕ, ◌<◌, ◌≤◌, Bool, ◌&&◌, List, length, take, get_or}
use Rattle.std.specs.List.{list_any}
use Rattle.teb_rules.specs.declared.names.Cell.{Cell}
use Rattle.teb_rules.specs.declared.names.Txn.{Txn}
use Rattle.teb_rules.specs.declared.history.Event.{Event}
use Rattle.teb_rules.specs.history.Phases.{txns, committed}
use Rattle.teb_rules.specs.history.Accesses.{wrote}
use Rattle.teb_rules.specs.Setup.{Setup}
use Rattle.teb_rules.specs.Batches.{start}
use Rattle.teb_rules.specs.Controls.{edge}
use Rattle.snapshot_node.specs.Pivots.{is_across}
use Rattle.snapshot_node.specs.Standing.{writers_in}

-- a has an edge to a committed transaction
abbrev pub has_edge : Setup → List Event → ℕ → ℕ → Bool
has_edge S H n a = list_any (λ b. committed H b && edge S H n a b) (txns H)

-- b is committed, and across from a
abbrev pub is_beside : Setup → List Event → ℕ → ℕ → ℕ → Bool
is_beside S H n a b = committed H b && is_across S H n a b

-- such a transaction has put x
abbrev pub is_overwritten : Setup → List Event → ℕ → ℕ → Cell → Bool
is_overwritten S H n a x = list_any (λ b. is_beside S H n a b && wrote H b x) (txns H)

-- us are the first of the writers of x, those whose batches start before position i
pub record AreStarted (S : Setup) (H : List Event) (n : ℕ) (x : Cell) (i : ℕ) (us : List Txn) : Type 0 where
  pub first : us ≡ take (length us) (writers_in S H n x)
  pub before : (j : ℕ) (d : Txn) → j < length us → start S H n (get_or us j d).0 < i
  pub behind : (j : ℕ) (d : Txn) → length us ≤ j → j < length (writers_in S H n x) → i ≤ start S H n (get_or (writers_in S H n x) j d).0
