-- What facts tell, in the words of the rules.
use Rattle.std.specs.Prelude.{◌<◌, ◌≤◌, ℕ, List, IsTrue}
use Rattle.teb_rules.specs.declared.names.Cell.{Cell}
use Rattle.teb_rules.specs.declared.history.Event.{Event}
use Rattle.teb_rules.specs.history.Phases.{begun, kind_of, begun_count}
use Rattle.teb_rules.specs.history.Accesses.{wrote, got}
use Rattle.teb_rules.specs.Setup.{Setup}
use Rattle.phase_api.specs.declared.facts.Facts.{Facts}

abbrev pub setup_of : Facts → Setup
setup_of f = record { types = f.tree.now.types; profiles = f.profiles.now; tree = f.tree.now.rows }

abbrev pub events_of : Facts → List Event
events_of f = f.history.now.events

-- t has begun, with a type of the tree
pub record IsTyped (f : Facts) (t : ℕ) : Type 0 where
  pub begun : IsTrue (begun (events_of f) t)
  pub kind : kind_of (events_of f) t < f.tree.now.types

-- each transaction that has begun is of a type of the setup, they are numbered from 1 on, and only those have accessed cells
pub record IsOrderly (S : Setup) (H : List Event) : Type 0 where
  pub typed : (u : ℕ) → IsTrue (begun H u) → kind_of H u < S.types
  pub numbered : (u : ℕ) → IsTrue (begun H u) → (0 < u) × (u ≤ begun_count H)
  pub wrote : (u : ℕ) (x : Cell) → IsTrue (wrote H u x) → IsTrue (begun H u)
  pub got : (u : ℕ) (x : Cell) → IsTrue (got H u x) → IsTrue (begun H u)
