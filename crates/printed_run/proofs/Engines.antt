-- The history of an engine is a history over its setup.
use Rattle.std.proofs.Common.{◌≡◌, sym, ap, ◌∙◌, length}
use Rattle.teb_rules.specs.declared.names.naming.NameBook.{NameBook}
use Rattle.teb_rules.specs.Setup.{Store}
use Rattle.store_setup.specs.declared.Setup.{Setup}
use Rattle.store_setup.specs.SetupView.{setup_view}
use Rattle.store_setup.specs.Sound.{IsWhole}
use Rattle.store_setup.specs.Stores.{store_of}
use Rattle.engine_core.specs.EngineModel.{EngineModel, IsOfEngine}
use Rattle.printed_run.specs.Histories.{IsHistoryOver}
use Rattle.printed_run.specs.Printed.{IsNamedBy}

pub of_engine : (s : Setup) (e : EngineModel) → IsWhole (setup_view s) → store_of s ≡ e.store → s.names ≡ e.names → IsNamedBy e.store e.names → IsOfEngine e
    → IsHistoryOver (setup_view s) e.store e.names e.events
of_engine s e whole store names by is = record {
  whole = whole;
  nodes = ap (λ (X : Store). length X.setup.tree) store ∙ by.nodes ∙ sym (ap (λ (b : NameBook). length b.nodes) names);
  store = sym store;
  named = sym names;
  reached = is.reached;
}
