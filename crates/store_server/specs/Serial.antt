-- The life of a shared store as one serial run.
use Rattle.std.specs.Prelude.{◌≡◌, List, ◌++◌}
use Rattle.teb_rules.specs.Replay.{Values}
use Rattle.engine_core.specs.EngineModel.{EngineModel}
use Rattle.engine_store.specs.Lives.{Epoch, IsLife, IsSerialLife, epochs}
use Rattle.shared_store.specs.declared.entry.LifeEntry.{LifeEntry}
use Rattle.shared_store.specs.Lives.{LeadsTo}
use Rattle.shared_store.specs.Stages.{Stage, first_stage}
use Rattle.store_server.specs.Standings.{standing_of}

-- further epochs, the last of which stands at this stage; with those that are past they make one serial run
pub record IsSerialTo (T : Values) (past : List Epoch) (h : Stage) : Type 0 where
  pub later : List Epoch
  pub present : EngineModel
  pub store : present.store ≡ h.standing.store
  pub events : present.events ≡ h.standing.events
  pub life : IsLife T (record { past = past ++ later; present = present })
  pub serial : IsSerialLife T (epochs (record { past = past ++ later; present = present }))

-- where the life of a shared store begins
abbrev pub stage_at : EngineModel → Stage
stage_at e = first_stage (standing_of e)

-- whatever epochs are past, the life of a shared store goes on from them as one serial run
abbrev pub SharedLivesAreSerial : Type 0
SharedLivesAreSerial = (T : Values) (past : List Epoch) (e : EngineModel) (entries : List LifeEntry) (h : Stage) → IsLife T (record { past = past; present = e })
    → LeadsTo (stage_at e) entries h → ∥ IsSerialTo T past h ∥₁
