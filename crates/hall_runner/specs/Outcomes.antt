-- What a run by several threads comes to, by its outcome.
use Rattle.std.specs.Prelude.{◌≡◌, List, [], Option, Some, None, IfSome}
use Rattle.teb_rules.specs.declared.names.Entry.{Entry}
use Rattle.teb_rules.specs.declared.names.Session.{Session}
use Rattle.teb_rules.specs.declared.names.naming.NameBook.{NameBook}
use Rattle.teb_rules.specs.declared.history.Event.{Event}
use Rattle.teb_rules.specs.Setup.{Store}
use Rattle.teb_rules.specs.Ranks.{serial_order}
use Rattle.teb_rules.specs.Serializes.{Serializes}
use Rattle.session_server.specs.Halls.{Ghosts, Pass}
use Rattle.script_text.specs.declared.Line.{Line}
use Rattle.script_text.specs.Scripts.{scripts_of}
use Rattle.store_setup.specs.SetupView.{SetupView}
use Rattle.store_setup.specs.Sound.{IsWhole, IsNamed, HasNames}
use Rattle.command_output.specs.Shown.{Shown}
use Rattle.store_setup.specs.Stores.{store_of_view, names_of}
use Rattle.input_reader.specs.Tasks.{Task}
use Rattle.hall_runner.specs.Served.{AreServed}
use Rattle.hall_runner.specs.Spent.{IsSpentOn}
use Rattle.hall_runner.specs.declared.served.Served.{Served}
use Rattle.hall_runner.specs.declared.served.Served.TheVariants.{Through, Spent}

-- of these scripts, over a store
abbrev pub IsServedOver : Store → NameBook → List (Session × List Line) → Served → Type 0
IsServedOver X names scripts (Through output entries) = AreServed X names scripts entries output
IsServedOver X names scripts (Spent p) = IsSpentOn X scripts p

abbrev pub IsServedBy : Task → Served → Type 0
IsServedBy task s = IsServedOver (store_of_view task.setup) (names_of task.setup) (scripts_of task.lines) s

-- all scripts were worked through, and the entries are kept; or a pass is spent, and nothing is shown
abbrev pub IsServedAs : {C : Type 0} {g : Ghosts C} → Task → Option (List Entry) → Option (Pass C g) → Shown → Type 0
IsServedAs task (Some entries) None d = AreServed (store_of_view task.setup) (names_of task.setup) (scripts_of task.lines) entries d
IsServedAs task None (Some p) d = IsSpentOn (store_of_view task.setup) (scripts_of task.lines) p × (d ≡ record { status = 10; text = []; history = None })
IsServedAs task _ _ d = ⊥

abbrev pub history_in : Served → Option (List Event)
history_in (Through output entries) = output.history
history_in (Spent p) = None

-- the history, where there is one, is serialized over this store
abbrev pub IsSerializedOver : Store → Option (List Event) → Type 0
IsSerializedOver X history = IfSome history (λ H. Serializes X H (serial_order X.setup H))

-- a store and names that are a setup's
pub record AreSetUp (X : Store) (names : NameBook) : Type 0 where
  pub setup : SetupView
  pub whole : IsWhole setup
  pub nodes : IsNamed setup
  pub has_names : HasNames setup
  pub store : X ≡ store_of_view setup
  pub named : names ≡ names_of setup
