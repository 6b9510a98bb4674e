-- What a shared store in a file begins with.
use Rattle.std.specs.Prelude.{◌≡◌, ℕ, List}
use Rattle.engine_core.specs.EngineModel.{EngineModel}
use Rattle.crash_disk.specs.Disk.{Only}
use Rattle.crash_disk.specs.Log.{contents, MayLeave}
use Rattle.file_disk.specs.declared.disk.FileDisk.{FileDisk}
use Rattle.shared_store.specs.Stages.{Stage, first_stage}
use Rattle.store_server.specs.Found.{IsFound}
use Rattle.store_server.specs.Standings.{standing_of}

-- The life begins with an engine in which nothing has happened, with the rows that the file has as a disk of that capacity. All bytes of the file
-- are safe.
pub record IsOpened (capacity : ℕ) (text : List ℕ) (base : Stage) : Type 0 where
  pub disk : FileDisk
  pub safe : Only (contents disk.mirror.log.steps) (MayLeave disk.mirror.log.steps)
  pub engine : EngineModel
  pub found : IsFound (λ (d : FileDisk). contents d.mirror.log.steps) (λ (d : FileDisk). MayLeave d.mirror.log.steps) capacity text disk engine
  pub begins : base ≡ first_stage (standing_of engine)
