use Rattle.engine_store.proofs.Outside.{outside}
use Rattle.engine_store.proofs.found.are_of_tables.Goals as goal

pub returns-then-tables-row-clause-outside : goal.returns-then-tables-row-clause-outside
returns-then-tables-row-clause-outside c is = outside c.args.tables c.args.rows.now c.loop-row.row-index _ c.loop-row-test.true c.if-tables-row.true
