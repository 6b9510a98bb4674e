-- The store and the names of a setup.
use Rattle.std.specs.Prelude.{◌≡◌}
use Rattle.teb_rules.specs.declared.names.naming.NameBook.{NameBook}
use Rattle.teb_rules.specs.Setup.{Store}
use Rattle.store_setup.specs.SetupView.{SetupView}
use Rattle.store_setup.specs.Sound.{IsWhole, IsNamed, HasNames}
use Rattle.store_setup.specs.Stores.{store_of_view, names_of}

-- a store, whatever its rows, and names that are a setup's, each of whose tables, types and nodes has a name
pub record IsSetUp (X : Store) (names : NameBook) : Type 0 where
  pub setup : SetupView
  pub whole : IsWhole setup
  pub nodes : IsNamed setup
  pub has_names : HasNames setup
  pub rules : X.setup ≡ (store_of_view setup).setup
  pub tables : X.tables ≡ (store_of_view setup).tables
  pub named : names ≡ names_of setup
