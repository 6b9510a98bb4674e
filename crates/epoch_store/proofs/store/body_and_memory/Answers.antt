use Rattle.epoch_store.proofs.Answering.{as_ask_full}
use Rattle.epoch_store.proofs.store.body_and_memory.Goals as goal

pub returns-in-Err-clause-full : goal.returns-in-Err-clause-full
returns-in-Err-clause-full g c is = c.in-Err.ensures.full (as_ask_full c.in-Err.error c.from.result c.from.ensures is)
