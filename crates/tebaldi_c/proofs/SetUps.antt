-- The engine of the next epoch has the setup of its tree text, or there is a reason why it cannot follow.
use Rattle.std.proofs.Common.{◌≡◌, ℕ, List, [], length, ap, sym, ◌∙◌}
use Rattle.teb_rules.specs.declared.names.naming.NameBook.{NameBook}
use Rattle.teb_rules.specs.Setup.{Store}
use Rattle.store_setup.specs.declared.Setup.{Setup}
use Rattle.store_setup.specs.SetupView.{SetupView, setup_view}
use Rattle.store_setup.specs.Sound.{IsWhole, IsNamed, HasNames}
use Rattle.engine_core.specs.EngineModel.{EngineModel}
use Rattle.tree_switch.specs.Refusals.{IsCause}
use Rattle.tree_switch.specs.Starts.{IsStarted}
use Rattle.tree_switch.specs.declared.error.SwitchError.{SwitchError}
use Rattle.tree_switch.specs.declared.error.SwitchError.TheVariants.{Again, Untold, Tables, Rows, OutOfMemory}
use Rattle.printed_run.specs.Printed.{IsNamedBy}
use Rattle.tebaldi_c.specs.Epochs.{IsHindrance}
use Rattle.tebaldi_c.specs.Images.{IsReopened}
use Rattle.tebaldi_c.specs.Shelves.{Filed}
use Rattle.tebaldi_c.specs.SetUp.{IsSetUp}

pub set_up_next : (s : Setup) (before e : EngineModel) → IsWhole (setup_view s) → IsNamed (setup_view s) → HasNames (setup_view s) → IsStarted s before e → IsSetUp e.store e.names
set_up_next s before e whole nodes names started = record {
  setup = setup_view s;
  whole = whole;
  nodes = nodes;
  has_names = names;
  rules = started.setup;
  tables = started.tables;
  named = started.names;
}

-- a store that is opened from the bytes of a file has the setup of its tree text
pub set_up_reopened : (m : SetupView) (bytes : List ℕ) (f : Filed) → IsWhole m → IsNamed m → HasNames m → IsReopened m bytes f → IsSetUp f.engine.store f.engine.names
set_up_reopened m bytes f whole nodes names r = record { setup = m; whole = whole; nodes = nodes; has_names = names; rules = r.setup; tables = r.tables; named = r.names }

pub hindered : (e : EngineModel) (m : SetupView) (why : SwitchError) → m.rows ≡ [] → IsCause e m why → IsHindrance e m.tables why
hindered e m (Again t) none cause = cause
hindered e m (Untold s) none cause = cause
hindered e m Tables none cause = cause
hindered e m Rows none cause = absurd (cause.2 none)
hindered e m OutOfMemory none cause = tt

-- everything in the store of a setup has a name
pub named_by : (X : Store) (names : NameBook) → IsSetUp X names → IsNamedBy X names
named_by X names s = record {
  nodes = ap (λ (S : _). length S.tree) s.rules ∙ s.nodes ∙ sym (ap (λ (b : NameBook). length b.nodes) s.named);
  are = rw s.named (record { tables = s.has_names.tables; types = s.has_names.types; nodes = s.has_names.nodes });
  differ = rw s.named s.has_names.tables_differ;
}
