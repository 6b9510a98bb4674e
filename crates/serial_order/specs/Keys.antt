-- Committed transactions with their keys.
use Rattle.std.specs.Prelude.{◌≡◌, ℕ, ◌≤◌, Bool, true, false, cond, map, List, [], ◌∷◌, length, take, drop}
use Rattle.std.specs.List.{All}
use Rattle.teb_rules.specs.declared.names.ControlKind.{ControlKind}
use Rattle.teb_rules.specs.declared.names.ControlKind.TheVariants.{Locks, Pipeline, Timestamp, Snapshot}
use Rattle.teb_rules.specs.declared.history.Event.{Event}
use Rattle.teb_rules.specs.history.Phases.{spot_of}
use Rattle.teb_rules.specs.Setup.{Setup}
use Rattle.teb_rules.specs.Tree.{row, path, side}
use Rattle.teb_rules.specs.Ranks.{rank}
use Rattle.serial_order.specs.declared.serial.Entry.{Entry}

abbrev pub entry_numbers : List Entry → List ℕ
entry_numbers es = map (λ e. e.txn.0) es

abbrev pub ranks_by_done : ControlKind → Bool
ranks_by_done Locks = true
ranks_by_done Pipeline = true
ranks_by_done Timestamp = false
ranks_by_done Snapshot = false

-- the key of a path, by the rank f and the side g at each node, up to the rank at the first node that passes
abbrev pub cut_of : (ℕ → ℕ) → (ℕ → ℕ) → (ℕ → Bool) → List ℕ → List ℕ
cut_of f g last [] = []
cut_of f g last (n ∷ ns) = f n ∷ cond (last n) [] (g n ∷ cut_of f g last ns)

-- t's ranks and sides at these nodes, up to the rank that is its Done
abbrev pub key_along : Setup → List Event → ℕ → List ℕ → List ℕ
key_along S H t ns = cut_of (λ n. rank S H n t) (λ n. side S H n t) (λ n. ranks_by_done (row S.tree n).control) ns

abbrev pub cut_key : Setup → List Event → ℕ → List ℕ
cut_key S H t = key_along S H t (path S.tree (spot_of H t))

-- its key, among the numbers of all keys
abbrev pub key_of : List ℕ → Entry → List ℕ
key_of ns e = drop e.start (take e.end ns)

pub record HasKey (S : Setup) (H : List Event) (ns : List ℕ) (e : Entry) : Type 0 where
  pub within : e.end ≤ length ns
  pub is : key_of ns e ≡ cut_key S H e.txn.0

-- each has its key there
abbrev pub HaveKeys : Setup → List Event → List ℕ → List Entry → Type 0
HaveKeys S H ns es = All (HasKey S H ns) es
