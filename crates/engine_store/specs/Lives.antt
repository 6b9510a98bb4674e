-- The life of a store over its openings: each epoch as far as a crash left it.
use Rattle.std.specs.Prelude.{◌≡◌, ◌≤◌, ℕ, List, [], ◌∷◌, ◌++◌, map}
use Rattle.std.specs.List.{All, flat_map}
use Rattle.teb_rules.specs.declared.names.Cell.{Cell}
use Rattle.teb_rules.specs.names.Rows.{row_of}
use Rattle.teb_rules.specs.declared.history.Event.{Event}
use Rattle.teb_rules.specs.Setup.{Store}
use Rattle.teb_rules.specs.Accepted.{IsSound}
use Rattle.teb_rules.specs.Ranks.{serial_order}
use Rattle.teb_rules.specs.Replay.{Values}
use Rattle.teb_rules.specs.Serializes.{Serializes}
use Rattle.teb_rules.specs.laws.Lawful.{Lawful, ReadsRows}
use Rattle.engine_core.specs.EngineModel.{EngineModel, IsOfEngine}
use Rattle.tree_switch.specs.Serial.{Order, ReadsRight, table_along}
use Rattle.commit_laws.specs.Commits.{commit_count, rows_after, up_to_commit}

-- an epoch: the store that it began with, its history, and how many of its commits were kept
pub record Epoch : Type 0 where
  pub store : Store
  pub events : List Event
  pub kept : ℕ

-- no more commits were kept than there were; the rules granted each event of the history, and reads of the starting rows are right
pub record IsEpoch (e : Epoch) : Type 0 where
  pub few : e.kept ≤ commit_count e.events
  pub sound : IsSound e.store.setup
  pub lawful : Lawful e.store.setup e.events
  pub reads : ReadsRows e.store.rows e.events

-- the history up to the last commit that was kept, and the rows that the kept commits leave
abbrev pub kept_events : Epoch → List Event
kept_events e = up_to_commit e.kept e.events

abbrev pub left_by : Epoch → Values
left_by e = rows_after e.store e.events e.kept

-- the first epoch starts with this table, and each later one with what the one before it left
abbrev pub LivesOn : Values → List Epoch → Type 0
LivesOn T [] = Unit {0}
LivesOn T (e ∷ later) = IsEpoch e × ((x : Cell) → row_of e.store.rows x ≡ T x) × LivesOn (left_by e) later

-- the epoch of an engine of which the first k commits were kept, and the one with all of them
abbrev pub epoch_with : ℕ → EngineModel → Epoch
epoch_with k e = record { store = e.store; events = e.events; kept = k }

abbrev pub epoch_of : EngineModel → Epoch
epoch_of e = epoch_with (commit_count e.events) e

-- a life so far: the epochs that are past, the oldest first, and the engine of the present one
pub record Life : Type 0 where
  pub past : List Epoch
  pub present : EngineModel

abbrev pub epochs : Life → List Epoch
epochs l = l.past ++ epoch_of l.present ∷ []

-- the first of its epochs started with this table
pub record IsLife (T : Values) (l : Life) : Type 0 where
  pub engine : IsOfEngine l.present
  pub on : LivesOn T (epochs l)

-- the table that the last epoch left
abbrev pub end_of_life : Values → List Epoch → Values
end_of_life T [] = T
end_of_life T (e ∷ later) = end_of_life (left_by e) later

-- the serial order of the kept commits of an epoch, and those of all epochs, one after the other
abbrev pub kept_order : Epoch → List ℕ
kept_order e = serial_order e.store.setup (kept_events e)

abbrev pub order_of_life : List Epoch → Order
order_of_life life = flat_map (λ e. map (λ t. (kept_events e, t)) (kept_order e)) life

-- run along the whole order from the first table, the kept commits of all epochs read what they read, and leave the rows of the end; and the
-- order of each epoch serializes its history up to the last commit that was kept
pub record IsSerialLife (T : Values) (life : List Epoch) : Type 0 where
  pub reads : ReadsRight (order_of_life life) T
  pub final : (x : Cell) → table_along (order_of_life life) T x ≡ end_of_life T life x
  pub each : All (λ e. Serializes e.store (kept_events e) (kept_order e)) life

-- each life is serial
abbrev pub LivesAreSerial : Type 0
LivesAreSerial = (T : Values) (life : List Epoch) → LivesOn T life → IsSerialLife T life
