use Rattle.store_setup.specs.Stores.{store_of}
use Rattle.engine_core.proofs.Carrying.{leads_on, is_short}
use Rattle.engine_core.proofs.respond.respond.Goals as goal

pub write-requires-clause-short : goal.write-requires-clause-short
write-requires-clause-short g c = is_short c.decide-decision.result c.in_default.not-Scan

pub write-requires-clause-leads : goal.write-requires-clause-leads
write-requires-clause-leads g c =
    let X = store_of c.args.state.now.setup in
    let H = c.args.state.now.history.events in
    leads_on X H c.args.session c.args.request.now c.args.state.now.whole.sound c.args.state.now.whole.lawful c.requires.ready.settled c.decide-decision.result c.decide-decision.ensures.answer
