-- What a session holds.
use Rattle.std.specs.Prelude.{◌≡◌, List, Some, None, IsTrue}
use Rattle.teb_rules.specs.declared.names.Session.{Session}
use Rattle.teb_rules.specs.declared.history.Event.{Event}
use Rattle.teb_rules.specs.history.Phases.{aborted, prepared, unfinished}
use Rattle.teb_rules.specs.history.Written.{held_txn}
use Rattle.engine_core.specs.declared.holding.Holding.{Holding}
use Rattle.engine_core.specs.declared.holding.Holding.TheVariants.{Nothing, Fallen, Running}

-- no transaction, or the one that the session holds, which is aborted or unfinished
abbrev pub IsHeld : List Event → Session → Holding → Type 0
IsHeld H s Nothing = held_txn H s ≡ None
IsHeld H s (Fallen t) = (held_txn H s ≡ Some t) × IsTrue (aborted H t.0)
IsHeld H s (Running t p) = (held_txn H s ≡ Some t) × IsTrue (unfinished H t.0) × (p ≡ prepared H t.0)
