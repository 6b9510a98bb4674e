-- The tree text of a store, and its names.
use Rattle.std.specs.Prelude.{◌≡◌, ℕ, List, Ok, length, true}
use Rattle.std.specs.List.{IsDistinct, list_all}
use Rattle.std.specs.Str.{bytes_eq}
use Rattle.teb_rules.specs.declared.names.naming.NameBook.{NameBook}
use Rattle.teb_rules.specs.names.Names.{is_name}
use Rattle.teb_rules.specs.Setup.{Store}
use Rattle.store_setup.specs.SetupView.{SetupView}
use Rattle.store_setup.specs.Stores.{store_of_view}
use Rattle.tree_toml.specs.SetupText.{setup_of_text}

-- the store has the types, the tree and the tables that the text says, and its tables have the names there
abbrev pub IsTreeOf : List ℕ → Store → NameBook → Type 0
IsTreeOf text X names = (m : SetupView) → setup_of_text text ≡ Ok m → (X.setup ≡ (store_of_view m).setup) × (X.tables ≡ (store_of_view m).tables) × (names.tables ≡ m.tables)

-- each node of the store has a name; the names of tables, types and nodes have the form of names, and no two tables have the same
pub record IsWellNamed (X : Store) (names : NameBook) : Type 0 where
  pub each_node : length X.setup.tree ≡ length names.nodes
  pub tables : list_all is_name names.tables ≡ true
  pub types : list_all is_name names.types ≡ true
  pub nodes : list_all is_name names.nodes ≡ true
  pub tables_differ : IsDistinct bytes_eq names.tables
