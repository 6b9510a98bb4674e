-- Setups that an engine can be made from, and names that can be written.
use Rattle.std.specs.Prelude.{◌≡◌, ◌<◌, ◌≤◌, true, length}
use Rattle.std.specs.List.{All, IsDistinct, list_all}
use Rattle.std.specs.Str.{bytes_eq}
use Rattle.teb_rules.specs.names.Names.{is_name}
use Rattle.teb_rules.specs.Setup.{Setup, ranked_tables}
use Rattle.teb_rules.specs.Accepted.{IsSound}
use Rattle.store_setup.specs.SetupView.{SetupView}

-- what the controls go by
abbrev pub rules_of : SetupView → Setup
rules_of m = record { types = length m.types; profiles = m.profiles; tree = m.tree.rows }

-- a store can be set up with it: as many profiles as names of types, and a sound tree of at most 64 nodes, built for that many types; at
-- most 64 tables, among which is each table of a profile or of a starting row
pub record IsWhole (m : SetupView) : Type 0 where
  pub sound : IsSound (rules_of m)
  pub profiles : length m.profiles ≡ length m.types
  pub types : m.tree.types ≡ length m.types
  pub few_nodes : length m.tree.rows ≤ 64
  pub few_tables : length m.tables ≤ 64
  pub ranked : ranked_tables (rules_of m) ≤ length m.tables
  pub cells : All (λ r. r.0.table.0 < length m.tables) m.rows

-- each node has a name
abbrev pub IsNamed : SetupView → Type 0
IsNamed m = length m.tree.rows ≡ length m.nodes

-- the names of its tables, types and nodes have the form of names, and no two tables have the same
pub record HasNames (m : SetupView) : Type 0 where
  pub tables : list_all is_name m.tables ≡ true
  pub types : list_all is_name m.types ≡ true
  pub nodes : list_all is_name m.nodes ≡ true
  pub tables_differ : IsDistinct bytes_eq m.tables
