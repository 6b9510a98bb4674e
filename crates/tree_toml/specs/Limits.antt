-- What a tree text can say.
use Rattle.std.specs.Prelude.{◌≤◌, length}
use Rattle.teb_rules.specs.declared.names.rows.TheConstants.{MOST_ROWS}
use Rattle.teb_rules.specs.names.Rows.{IsAscending}
use Rattle.store_setup.specs.SetupView.{SetupView}

-- no more than it may have of each list, one row a cell, in ascending order, and a known format
pub record IsOfText (m : SetupView) : Type 0 where
  pub few_types : length m.types ≤ 64
  pub few_nodes : length m.nodes ≤ 64
  pub few_rows : length m.rows ≤ MOST_ROWS
  pub ascending : IsAscending m.rows
  pub format : (1 ≤ m.format) × (m.format ≤ 3)
