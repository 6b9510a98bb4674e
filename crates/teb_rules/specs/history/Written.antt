-- What contracts see of a history, and the phase of each transaction in it.
use Rattle.std.specs.Prelude.{ℕ, Bool, true, false, cond, eqb, not, ◌&&◌, ◌||◌, List, Option, Some, None}
use Rattle.teb_rules.specs.declared.names.Spot.{Spot}
use Rattle.teb_rules.specs.declared.names.Kind.{Kind}
use Rattle.teb_rules.specs.declared.names.Txn.{Txn}
use Rattle.teb_rules.specs.declared.names.Session.{Session}
use Rattle.teb_rules.specs.declared.history.Event.{Event}
use Rattle.teb_rules.specs.declared.history.Event.TheVariants as event
use Rattle.teb_rules.specs.declared.history.Phase.{Phase}
use Rattle.teb_rules.specs.declared.history.Phase.TheVariants as phase
use Rattle.teb_rules.specs.history.Positions.{came}
use Rattle.teb_rules.specs.history.Phases.{begun, committed, aborted, ready_at, spot_of, session_of, unfinished, untold, held}

-- the events so far, the newest first, and how many more may be written without memory
pub record Written : Type 0 where
  pub events : List Event
  pub spare : ℕ

abbrev pub is_begin : Event → Bool
is_begin (event.Began u s k i) = true
is_begin _ = false

-- the phase of t
abbrev pub phase_of : List Event → ℕ → Phase
phase_of H t =
    cond (committed H t) phase.Committed
    (cond (aborted H t) phase.Aborted
    (cond (not (begun H t)) phase.NotBegun
    (cond (came H (ready_at H t)) phase.Ready phase.Running)))

-- the spot, the type and the session with which t began, if it has
abbrev pub begun_spot : List Event → ℕ → Option Spot
begun_spot H t = cond (begun H t) (Some (spot_of H t)) None

abbrev pub begun_kind : List Event → ℕ → Option Kind
begun_kind H t = cond (begun H t) (Some (spot_of H t).kind) None

abbrev pub begun_session : List Event → ℕ → Option Session
begun_session H t = cond (begun H t) (Some (record { 0 = session_of H t })) None

-- the transaction that session s holds
abbrev pub txn_of : Option ℕ → Option Txn
txn_of None = None
txn_of (Some t) = Some (record { 0 = t })

abbrev pub held_txn : List Event → Session → Option Txn
held_txn H s = txn_of (held H s.0)

-- t is what session s holds
abbrev pub is_held : List Event → ℕ → ℕ → Bool
is_held H s t = eqb (session_of H t) s && (unfinished H t || untold H t)
