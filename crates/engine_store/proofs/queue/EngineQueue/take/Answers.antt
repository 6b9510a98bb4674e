use Rattle.engine_store.proofs.Halves.{none_since}
use Rattle.engine_store.proofs.queue.EngineQueue.take.Goals as goal

pub returns-clause-none : goal.returns-clause-none
returns-clause-none g c =
    let now = c.take.new.self in
    none_since now.engine.engine.store now.engine.engine.events now.waiting c.take.ensures.none
