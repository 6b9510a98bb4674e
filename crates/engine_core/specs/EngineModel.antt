-- What contracts see of an engine, and what holds of each.
use Rattle.std.specs.Prelude.{◌≡◌, ◌≤◌, Bool, true, List}
use Rattle.teb_rules.specs.declared.names.Session.{Session}
use Rattle.teb_rules.specs.declared.names.Request.{Request}
use Rattle.teb_rules.specs.declared.names.naming.NameBook.{NameBook}
use Rattle.teb_rules.specs.declared.history.Event.{Event}
use Rattle.teb_rules.specs.Setup.{Store}
use Rattle.teb_rules.specs.Accepted.{IsSound}
use Rattle.teb_rules.specs.laws.Laws.{reached}
use Rattle.store_setup.specs.SetupView.{setup_view}
use Rattle.store_setup.specs.Sound as SetUp
use Rattle.engine_core.specs.declared.room.TheConstants.{MOST_EVENTS}
use Rattle.engine_core.specs.declared.engine_state.EngineState.{EngineState}
use Rattle.store_setup.specs.Stores.{store_of}

-- the store, its names, its history, the newest event first, and whether there is room for the events of one answer
pub record EngineModel : Type 0 where
  pub store : Store
  pub names : NameBook
  pub events : List Event
  pub ready : Bool

-- some list of requests leads to this history of the store
abbrev pub IsReached : Store → List Event → Type 0
IsReached X H = (asked : List (Session × Request)) × (H ≡ reached X asked)

-- what holds of the value of each engine: its setup is sound, and its history is one that requests lead to
pub record IsOfEngine (e : EngineModel) : Type 0 where
  pub sound : IsSound e.store.setup
  pub reached : IsReached e.store e.events

-- the setup is one that a store can be set up with, the history is one that requests lead to, and if the engine is ready there is room for an
-- answer
pub record IsEngine {C : Type 0} {g : _} (k : EngineState C g) (ready : Bool) : Type 0 where
  pub setup : SetUp.IsWhole (setup_view k.setup)
  pub reached : IsReached (store_of k.setup) k.history.events
  pub enough : ready ≡ true → MOST_EVENTS ≤ k.room
