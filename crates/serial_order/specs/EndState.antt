-- Definitions about the end state.
use Rattle.std.specs.Prelude.{ℕ, ℤ, Option}
use Rattle.teb_rules.specs.declared.names.Cell.{Cell}
use Rattle.teb_rules.specs.Setup.{Store}
use Rattle.serial_order.specs.Tables.{store_with, left_in}
use Rattle.serial_order.specs.declared.end_state.EndState.{EndState}

abbrev pub left : {C g : _} → EndState C g → Cell → Option ℤ
left l x = left_in l.facts.now l.rows.now x

abbrev pub store : {C g : _} → EndState C g → ℕ → Store
store l tables = store_with l.facts.now l.rows.now tables
