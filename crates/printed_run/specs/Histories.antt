-- Histories of the store of a setup.
use Rattle.std.specs.Prelude.{◌≡◌, List}
use Rattle.teb_rules.specs.declared.names.naming.NameBook.{NameBook}
use Rattle.teb_rules.specs.declared.history.Event.{Event}
use Rattle.teb_rules.specs.Setup.{Store}
use Rattle.store_setup.specs.SetupView.{SetupView}
use Rattle.store_setup.specs.Sound.{IsWhole, IsNamed}
use Rattle.store_setup.specs.Stores.{store_of_view, names_of}
use Rattle.engine_core.specs.EngineModel.{IsReached}

-- some requests to the store of a setup lead to this history
pub record IsHistoryOver (m : SetupView) (X : Store) (names : NameBook) (H : List Event) : Type 0 where
  pub whole : IsWhole m
  pub nodes : IsNamed m
  pub store : X ≡ store_of_view m
  pub named : names ≡ names_of m
  pub reached : IsReached X H
