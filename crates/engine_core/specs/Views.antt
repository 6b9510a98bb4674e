-- The store and the history that a view tells of.
use Rattle.std.specs.Prelude.{List}
use Rattle.teb_rules.specs.declared.history.Event.{Event}
use Rattle.teb_rules.specs.Setup.{Store}
use Rattle.phase_api.specs.FactsView.{events_of}
use Rattle.engine_core.specs.declared.engine_view.EngineView.{EngineView}
use Rattle.engine_core.specs.States.{store_told}

abbrev pub store_in : {C : Type 0} {g : _} → EngineView C g → Store
store_in p = store_told p.facts p.state.now

abbrev pub events_in : {C : Type 0} {g : _} → EngineView C g → List Event
events_in p = events_of p.facts
