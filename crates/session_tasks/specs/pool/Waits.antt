-- Which sessions wait in the queue.
use Rattle.std.specs.Prelude.{◌≡◌, ℕ, List, [], Option, Some, All, filter, map}
use Rattle.std.specs.Option.{is_some}
use Rattle.teb_rules.specs.history.Phases.{numbers}
use Rattle.atomic_table.specs.Seated.{TableId}
use Rattle.turn_lock.specs.Seats.{view_of}
use Rattle.session_server.specs.Halls.{Ghosts, Hall}
use Rattle.session_server.specs.Outfits.{Fitted}
use Rattle.session_server.specs.Passes.{IsNew, base_of, seen}
use Rattle.session_tasks.specs.Scripted.{Scripted, place_in}
use Rattle.session_tasks.specs.declared.pool.waiting.Waiting.{Waiting}
use Rattle.teb_rules.specs.declared.names.TheConstants.{SESSIONS}

-- those of some sessions that have a script
abbrev pub scripted_of : Scripted → List ℕ → List ℕ
scripted_of scripts sessions = filter (λ s. is_some (place_in scripts s)) sessions

-- the sessions from 1 to SESSIONS that have a script
abbrev pub scripted : Scripted → List ℕ
scripted scripts = scripted_of scripts (numbers SESSIONS)

module _ {C : Type 0} {g : Ghosts C} where
  abbrev pub number_at : Waiting C g → ℕ
  number_at w = w.session.0

  -- the pass is the unused one of its session in this hall
  pub record IsWaiting (h : Hall C g) (w : Waiting C g) : Type 0 where
    pub new : IsNew h w.pass
    pub session : w.pass.session ≡ w.session

  -- they are the sessions with a script, in ascending order, each with its unused pass
  pub record AreWaiting (h : Hall C g) (scripts : Scripted) (waiting : List (Waiting C g)) : Type 0 where
    pub numbers : map number_at waiting ≡ scripted scripts
    pub each : All (IsWaiting h) waiting

  -- which table and which base are the hall's
  abbrev pub tells_of : Hall C g → TableId → Option Fitted → Type 0
  tells_of h table base = (table ≡ h.turn.table.shared.table_id) × (base ≡ Some (base_of h))

  -- the pass is the unused one of its session, of the table and the base that are told
  pub record IsUnused (told : TableId → Option Fitted → Type 0) (w : Waiting C g) : Type 0 where
    pub place : told w.pass.seat.seat.table_id (view_of w.pass.seat).base
    pub seen : seen w.pass ≡ []
    pub asks : w.pass.asks ≡ 0
    pub session : w.pass.session ≡ w.session
