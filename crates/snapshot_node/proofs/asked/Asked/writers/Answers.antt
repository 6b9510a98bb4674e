use Rattle.std.proofs.Common.{◌∙◌}
use Rattle.phase_api.specs.FactsView.{setup_of, events_of}
use Rattle.snapshot_node.specs.Standing.{has_put_in}
use Rattle.snapshot_node.proofs.Listed.{listed, putter_begun}
use Rattle.snapshot_node.proofs.asked.Asked.writers.Goals as goal

pub returns : goal.returns
returns c =
    let S = setup_of c.args.self.now.facts.now in
    let H = events_of c.args.self.now.facts.now in
    let n = c.args.self.now.register.now.node.0 in
    let x = c.args.cell in
    c.writers.ensures ∙ listed (has_put_in S H n x) H c.args.self.now.stands.orderly (putter_begun S H n x c.args.self.now.stands.orderly) _ (c.args.self.now.stands.filed.writers x)
    (c.args.self.now.stands.put x)
