use Rattle.std.proofs.Common.{◌∙◌}
use Rattle.phase_api.specs.FactsView.{setup_of, events_of}
use Rattle.serial_order.proofs.LastCommitted.{final_there, final_row}
use Rattle.serial_order.proofs.end_state.EndState.value.Goals as goal

pub returns-in-Some : goal.returns-in-Some
returns-in-Some g c = final_there (setup_of c.args.self.now.facts.now) (events_of c.args.self.now.facts.now) c.args.cell (g.C.Chains.lists c.args.self.now.chains.now) c.args.self.now.lawful
    c.args.self.now.held c.args.self.now.rows.now 0
    c.in-Some.found.at (c.in-Some.found.writer, c.in-Some.found.value) c.in-Some.ensures.place c.in-Some.ensures.version

pub returns-in-None : goal.returns-in-None
returns-in-None g c = c.get.ensures ∙ final_row (setup_of c.args.self.now.facts.now) (events_of c.args.self.now.facts.now) c.args.cell (g.C.Chains.lists c.args.self.now.chains.now)
    c.args.self.now.lawful c.args.self.now.held c.args.self.now.rows.now 0 c.in-None.ensures.place
