-- The names that a store server has, as a printed run needs them.
use Rattle.teb_rules.specs.declared.names.naming.NameBook.{NameBook}
use Rattle.teb_rules.specs.Setup.{Store}
use Rattle.printed_run.specs.Printed.{IsNamedBy}
use Rattle.store_server.specs.Trees.{IsWellNamed}

pub named_by : (X : Store) (names : NameBook) → IsWellNamed X names → IsNamedBy X names
named_by X names well = record {
  nodes = well.each_node;
  are = record { tables = well.tables; types = well.types; nodes = well.nodes };
  differ = well.tables_differ;
}
