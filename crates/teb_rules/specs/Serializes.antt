-- What it is that an order serializes a history.
use Rattle.std.specs.Prelude.{◌≡◌, ◌⊎◌, ◌↔◌, ◌≢◌, ℕ, ◌<◌, ◌&&◌, List, [], ◌∷◌, filter, Option, Some, None, ℤ, IsTrue}
use Rattle.teb_rules.specs.declared.names.Cell.{Cell}
use Rattle.teb_rules.specs.declared.history.Event.{Event}
use Rattle.teb_rules.specs.history.Phases.{txns, done_at, committed}
use Rattle.teb_rules.specs.history.Accesses.{wrote, read_from}
use Rattle.teb_rules.specs.Setup.{Store}
use Rattle.teb_rules.specs.names.Rows.{row_of}
use Rattle.teb_rules.specs.Tree.{meets}
use Rattle.teb_rules.specs.Versions.{latest, value_left}
use Rattle.teb_rules.specs.Ranks.{rank}
use Rattle.teb_rules.specs.Replay.{Values, ReplaysRight, table_after}

-- what the last committed writer of x left, else the starting row
abbrev pub value_of : Store → List Event → Cell → Option ℕ → Option ℤ
value_of X H x (Some w) = value_left H w x
value_of X H x None = row_of X.rows x

-- the final table: for each cell the last committed version, no row if that deletes, and the starting row if no committed one put it
unfoldable pub final_table : Store → List Event → Values
final_table X H x = value_of X H x (latest X.setup H x (filter (λ w. committed H w && wrote H w x) (txns H)))

-- t is an element of a list
abbrev pub In : ℕ → List ℕ → Type 0
In t [] = ⊥
In t (s ∷ ss) = (s ≡ t) ⊎ In t ss

-- R holds of each element and each later one
abbrev pub Pairs : (ℕ → ℕ → Type 0) → List ℕ → Type 0
Pairs R [] = Unit {0}
Pairs R (s ∷ ss) = ((u : ℕ) → In u ss → R s u) × Pairs R ss

-- t precedes u in a list
abbrev pub StandsBefore : List ℕ → ℕ → ℕ → Type 0
StandsBefore [] t u = ⊥
StandsBefore (s ∷ ss) t u = ((s ≡ t) × In u ss) ⊎ StandsBefore ss t u

-- the order lists each committed transaction once, and no other; run serially in this order from the starting rows, the transactions read
-- what they read, and leave the final table; the order keeps every node's order of its sides; no transaction commits before one that it
-- read from
pub record Serializes (X : Store) (H : List Event) (order : List ℕ) : Type 0 where
  pub each : (t : ℕ) → In t order ↔ IsTrue (committed H t)
  pub once : Pairs (λ t u. t ≢ u) order
  pub reads : ReplaysRight H order (row_of X.rows)
  pub final : (x : Cell) → table_after H order (row_of X.rows) x ≡ final_table X H x
  pub nodes : (n t u : ℕ) → IsTrue (committed H t) → IsTrue (committed H u) → IsTrue (meets X.setup H n t u) → rank X.setup H n t < rank X.setup H n u → StandsBefore order t u
  pub recoverable : (t w : ℕ) → IsTrue (committed H t) → IsTrue (read_from H t w) → 0 < w → done_at H w < done_at H t
