-- How a phase starts.
use Rattle.std.specs.Prelude.{◌≡◌, [], false}
use Rattle.store_setup.specs.declared.Setup.{Setup}
use Rattle.engine_core.specs.EngineModel.{EngineModel}
use Rattle.store_setup.specs.Stores.{store_of}
use Rattle.teb_rules.specs.Epochs.{AreFinalRows}

-- nothing has happened in it; it has the types, the tree and the names of the setup, and the rows that the phase before it left
pub record IsStarted (s : Setup) (before e : EngineModel) : Type 0 where
  pub events : e.events ≡ []
  pub ready : e.ready ≡ false
  pub names : e.names ≡ s.names
  pub setup : e.store.setup ≡ (store_of s).setup
  pub tables : e.store.tables ≡ (store_of s).tables
  pub rows : AreFinalRows before.store before.events e.store.rows
