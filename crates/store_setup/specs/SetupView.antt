-- What contracts see of a setup.
use Rattle.std.specs.Prelude.{ℕ, ℤ, List}
use Rattle.teb_rules.specs.declared.names.Cell.{Cell}
use Rattle.store_setup.specs.tree.Grown.{Grown}
use Rattle.store_setup.specs.declared.Setup.{Setup}

-- the names of tables, types and nodes; for each type its steps, each a list of numbers of tables; the tree; the starting rows, which
-- ascend by cell; and the format of the text
pub record SetupView : Type 0 where
  pub tables : List (List ℕ)
  pub types : List (List ℕ)
  pub nodes : List (List ℕ)
  pub profiles : List (List (List ℕ))
  pub tree : Grown
  pub rows : List (Cell × ℤ)
  pub format : ℕ

abbrev pub setup_view : Setup → SetupView
setup_view s = record {
  tables = s.names.tables;
  types = s.names.types;
  nodes = s.names.nodes;
  profiles = s.profiles.items;
  tree = s.tree;
  rows = s.rows;
  format = s.format;
}
