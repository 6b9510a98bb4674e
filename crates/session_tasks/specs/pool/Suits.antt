-- Which rosters suit a run.
use Rattle.std.specs.Prelude.{◌≡◌, ℕ, ◌≤◌, List, Option, All, length, map}
use Rattle.atomic_table.specs.Seated.{TableId}
use Rattle.session_server.specs.Halls.{Ghosts, Hall}
use Rattle.session_server.specs.Outfits.{Fitted}
use Rattle.session_tasks.specs.pool.Rising.{Rising}
use Rattle.session_tasks.specs.pool.Waits.{IsUnused, number_at, tells_of}
use Rattle.session_tasks.specs.declared.pool.waiting.Waiting.{Waiting}
use Rattle.teb_rules.specs.declared.names.TheConstants.{SESSIONS}

-- it has at most SESSIONS sessions, in ascending order, and tells of this hall
pub record Suits {C : Type 0} {g : Ghosts C} (h : Hall C g) (numbers : List ℕ) (told : TableId → Option Fitted → Type 0) : Type 0 where
  pub few : length numbers ≤ SESSIONS
  pub rising : Rising 0 numbers
  pub tells : (table : TableId) (base : Option Fitted) → told table base → tells_of h table base

-- the roster tells of just these sessions, which wait, each with its unused pass
pub record AreOnRoster {C : Type 0} {g : Ghosts C} (waiting : List (Waiting C g)) (sessions : List ℕ) (told : TableId → Option Fitted → Type 0) : Type 0 where
  pub numbers : map number_at waiting ≡ sessions
  pub unused : All (IsUnused told) waiting

-- and it suits the run
pub record IsRosterOf {C : Type 0} {g : Ghosts C} (h : Hall C g) (waiting : List (Waiting C g)) (sessions : List ℕ) (told : TableId → Option Fitted → Type 0) : Type 0 where
  pub suits : Suits h sessions told
  pub these : AreOnRoster waiting sessions told
