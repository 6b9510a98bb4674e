-- The outcome of a request: its reply, or a scan whose cells are still to be read.
use Rattle.std.specs.Prelude.{◌≡◌}
use Rattle.teb_rules.specs.Answer.{Answered}
use Rattle.short_reply.specs.ShortReplies.{full_reply}
use Rattle.engine_core.specs.declared.decision.Decision.TheVariants as decision
use Rattle.engine_core.specs.declared.engine_state.EngineState.{EngineState}
use Rattle.engine_core.specs.declared.respond.Response.{Response}
use Rattle.engine_core.specs.declared.respond.Response.TheVariants.{Reply, Scan}
use Rattle.engine_core.specs.Cells.{HasKeys}
use Rattle.engine_core.specs.Decisions.{carried}
use Rattle.store_setup.specs.Stores.{store_of}

-- a reply means that all of the answer is written; a scan, that nothing is written yet, and that carrying it out is the answer: it has at most
-- 16 cells, each of which has a key
abbrev pub IsResponse : {C : Type 0} {g : _} → EngineState C g → EngineState C g → Answered → Response → Type 0
IsResponse old new a (Reply r) = (full_reply r ≡ a.0) × (new.history.events ≡ a.1)
IsResponse old new a (Scan t x n) = (new ≡ old) × (carried (store_of old.setup) old.history.events (decision.Scan t x n) ≡ a) × HasKeys x n
