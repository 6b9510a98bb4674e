-- What holds of what an engine keeps.
use Rattle.std.specs.Prelude.{◌≤◌, List, length}
use Rattle.teb_rules.specs.declared.names.Cell.{Cell}
use Rattle.teb_rules.specs.Setup.{Store}
use Rattle.teb_rules.specs.laws.Lawful.{Settled}
use Rattle.version_chain.specs.Lists.{Version}
use Rattle.phase_api.specs.declared.facts.Facts.{Facts}
use Rattle.phase_api.specs.FactsView.{setup_of, events_of}
use Rattle.engine_core.specs.declared.engine_state.EngineState.{EngineState}
use Rattle.engine_core.specs.declared.room.TheConstants.{MOST_EVENTS}
use Rattle.engine_core.specs.Wholes.{IsWhole}

-- between two answers: no transaction that is not aborted has read from one that is, and there is room for the events of an answer
pub record IsReady {C : Type 0} {g : _} (c : EngineState C g) : Type 0 where
  pub settled : Settled c.history.events
  pub room : MOST_EVENTS ≤ c.room

-- the store that facts tell of, with the names and the rows of what is kept
abbrev pub store_told : {C : Type 0} {g : _} → Facts → EngineState C g → Store
store_told f c = record { setup = setup_of f; tables = length c.setup.names.tables; rows = c.setup.rows }

-- facts and what is kept are of one history, and no transaction that is not aborted has read from one that is
pub record AreTogether {C : Type 0} {g : _} (lists : C → Cell → List Version) (f : Facts) (c : EngineState C g) : Type 0 where
  pub whole : IsWhole (store_told f c) (events_of f) c.controls.items (lists c.chains) c.book.lists c.cursors.cursors c.latest
  pub settled : Settled (events_of f)
