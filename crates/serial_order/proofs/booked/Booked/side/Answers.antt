use Rattle.std.proofs.Common.{◌∙◌}
use Rattle.phase_api.specs.FactsView.{setup_of, events_of}
use Rattle.serial_order.proofs.Places.{on_told, side_told}
use Rattle.serial_order.proofs.booked.Booked.side.Goals as goal

pub side-requires-clause-on : goal.side-requires-clause-on
side-requires-clause-on c = on_told (setup_of c.args.self.now.facts.now) (events_of c.args.self.now.facts.now) c.args.n.0 c.args.t.0 c.args.spot c.requires.spot c.requires.here.on

pub returns-in-Some : goal.returns-in-Some
returns-in-Some c = c.from.ensures ∙ c.in-Some.ensures.side c.args.t.0 ∙ side_told (setup_of c.args.self.now.facts.now) (events_of c.args.self.now.facts.now) c.args.n.0 c.args.t.0 c.args.spot
    c.requires.spot

pub returns-in-None : goal.returns-in-None
returns-in-None c = c.in-None.ensures.side c.args.t.0 ∙ side_told (setup_of c.args.self.now.facts.now) (events_of c.args.self.now.facts.now) c.args.n.0 c.args.t.0 c.args.spot c.requires.spot
