use Rattle.engine_store.proofs.Starting.{starts_with_records}
use Rattle.engine_store.proofs.next_epoch.next_engine.Goals as goal

pub returns-clause-rows : goal.returns-clause-rows
returns-clause-rows g c = starts_with_records c.with_rows-setup.result c.args.engine.now c.in_ok-start.field-0 c.history.ensures.sound c.history.ensures.lawful c.in_ok-start.ensures
