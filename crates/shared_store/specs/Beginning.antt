-- When a transaction may begin.
use Rattle.std.specs.Prelude.{◌≡◌, ◌<◌, Bool, false, List, is_some}
use Rattle.teb_rules.specs.declared.names.TheConstants.{MOST_TXNS}
use Rattle.teb_rules.specs.declared.names.Request.{Request}
use Rattle.teb_rules.specs.declared.names.Request.TheVariants.{Begin}
use Rattle.teb_rules.specs.declared.names.Session.{Session}
use Rattle.teb_rules.specs.declared.history.Event.{Event}
use Rattle.teb_rules.specs.history.Phases.{begun_count}
use Rattle.teb_rules.specs.history.Written.{held_txn}

-- it asks to begin a transaction
abbrev pub IsBegin : Request → Type 0
IsBegin (Begin spot) = Unit {0}
IsBegin _ = ⊥

-- session s holds a live transaction: an unfinished one, or one that was aborted, of which it was not told
abbrev pub holds : List Event → Session → Bool
holds H s = is_some (held_txn H s)

-- fewer than MOST_TXNS transactions have begun, if a session that holds none asks to begin one
abbrev pub HasRoomFor : List Event → Session → Request → Type 0
HasRoomFor H s q = IsBegin q → holds H s ≡ false → begun_count H < MOST_TXNS
