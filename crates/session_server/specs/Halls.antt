-- Halls over an engine, and their passes.
use Rattle.session_server.specs.declared.engine.EngineServer.{EngineServer}
use Rattle.hall_server.specs.declared.server.Server as server
use Rattle.session_server.specs.declared.hall.HallOf.{HallOf}
use Rattle.session_server.specs.declared.pass.PassOf.{PassOf}

-- what an engine over such chains shows as a server
abbrev pub Ghosts : Type 0 → Type 1
Ghosts C = server.Ghosts (EngineServer C)

abbrev pub Hall : (C : Type 0) → Ghosts C → Type 0
Hall C g = HallOf (EngineServer C) g

abbrev pub Pass : (C : Type 0) → Ghosts C → Type 0
Pass C g = PassOf (EngineServer C) g
