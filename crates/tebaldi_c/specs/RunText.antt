-- The printed run of an engine as C has it.
use Rattle.std.specs.Prelude.{ℕ, List, Some}
use Rattle.audit_check.specs.Audit.{IsAudited}
use Rattle.engine_core.specs.EngineModel.{EngineModel}
use Rattle.printed_run.specs.Printed.{IsPrintedRun}
use Rattle.tebaldi_c.specs.Buffers.{IsTold}

-- a text that is the printed run of the engine, and that the audit accepts, is told
abbrev pub IsRunTold : EngineModel → List ℕ → List ℕ → ℕ → Type 0
IsRunTold e old new n = (text : List ℕ) × (IsPrintedRun e.store e.names e.events text × (IsAudited text × IsTold (Some text) old new n))
