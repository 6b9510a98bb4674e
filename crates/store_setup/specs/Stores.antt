-- The store of the rules that a setup makes, and its names.
use Rattle.std.specs.Prelude.{length}
use Rattle.teb_rules.specs.declared.names.naming.NameBook.{NameBook}
use Rattle.teb_rules.specs.Setup.{Store}
use Rattle.store_setup.specs.declared.Setup.{Setup}
use Rattle.store_setup.specs.SetupView.{SetupView}

abbrev pub store_of : Setup → Store
store_of s = record { setup = record { types = s.tree.types; profiles = s.profiles.items; tree = s.tree.rows }; tables = length s.names.tables; rows = s.rows }

abbrev pub store_of_view : SetupView → Store
store_of_view m = record { setup = record { types = m.tree.types; profiles = m.profiles; tree = m.tree.rows }; tables = length m.tables; rows = m.rows }

abbrev pub names_of : SetupView → NameBook
names_of m = record { tables = m.tables; types = m.types; nodes = m.nodes }
