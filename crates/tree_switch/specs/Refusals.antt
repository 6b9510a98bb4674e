-- Why a phase may not be followed by the next.
use Rattle.std.specs.Prelude.{◌≡◌, ◌≢◌, ℕ, ◌<◌, ◌≤◌, List, [], MatchResult, Result, IsTrue}
use Rattle.teb_rules.specs.declared.history.Event.{Event}
use Rattle.teb_rules.specs.history.Phases.{begun_count, unfinished}
use Rattle.teb_rules.specs.Epochs.{IsDrained, IsUntold}
use Rattle.engine_core.specs.EngineModel.{EngineModel}
use Rattle.store_setup.specs.SetupView.{SetupView}
use Rattle.tree_switch.specs.declared.error.SwitchError.{SwitchError}
use Rattle.tree_switch.specs.declared.error.SwitchError.TheVariants.{Again, Untold, Tables, Rows, OutOfMemory}
use Rattle.teb_rules.specs.declared.names.TheConstants.{SESSIONS}

-- n is the least number with a property
abbrev pub IsLeast : (ℕ → Type 0) → ℕ → Type 0
IsLeast P n = P n × ((m : ℕ) → m < n → ¬ P m)

abbrev pub IsUnfinished : List Event → ℕ → Type 0
IsUnfinished H t = IsTrue (unfinished H t)

-- no transaction is unfinished, and each session was told of its abort
abbrev pub AllFinished : List Event → Type 0
AllFinished H = (t : ℕ) → ¬ IsUnfinished H t

abbrev pub AllTold : List Event → Type 0
AllTold H = (s : ℕ) → ¬ IsUntold H s

-- transactions are numbered from 1 to `begun_count`, and sessions from 1 to SESSIONS
abbrev pub AreNumbered : List Event → Type 0
AreNumbered H = (t : ℕ) → IsUnfinished H t → (0 < t) × (t ≤ begun_count H)

abbrev pub AreOfSessions : List Event → Type 0
AreOfSessions H = (s : ℕ) → IsUntold H s → (0 < s) × (s ≤ SESSIONS)

-- the engine is drained, and the setup has its tables and no rows
pub record MaySwitch (e : EngineModel) (m : SetupView) : Type 0 where
  pub drained : IsDrained e.events
  pub tables : m.tables ≡ e.names.tables
  pub rows : m.rows ≡ []

-- the first condition that fails
abbrev pub IsCause : EngineModel → SetupView → SwitchError → Type 0
IsCause e m (Again t) = IsLeast (IsUnfinished e.events) t.0
IsCause e m (Untold s) = AllFinished e.events × IsLeast (IsUntold e.events) s.0
IsCause e m Tables = IsDrained e.events × (m.tables ≢ e.names.tables)
IsCause e m Rows = IsDrained e.events × (m.tables ≡ e.names.tables) × (m.rows ≢ [])
IsCause e m OutOfMemory = MaySwitch e m

-- refused by a cause, or not at all
abbrev pub IsRefusedBy : {X : Type 0} → EngineModel → SetupView → Result X SwitchError → Type 0
IsRefusedBy e m r = MatchResult r (λ _. MaySwitch e m) (IsCause e m)
