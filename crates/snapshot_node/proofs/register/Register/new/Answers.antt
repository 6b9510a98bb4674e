use Rattle.std.proofs.Common.{◌∙◌, ap}
use Rattle.teb_rules.specs.Setup.{NodeRow}
use Rattle.phase_api.specs.FactsView.{setup_of, events_of}
use Rattle.snapshot_node.proofs.Begins.{stands_none, committed_none}
use Rattle.snapshot_node.proofs.register.Register.new.Goals as goal

pub returns-clause-stands : goal.returns-clause-stands
returns-clause-stands c =
    let S = setup_of c.args.facts.now in
    stands_none S (events_of c.args.facts.now) c.args.node.0 c.new-2.result c.requires.empty c.new-2.ensures c.new.result c.requires.kind
    (c.new.ensures.size ∙ ap (λ (r : NodeRow). r.batch) c.row.ensures) (c.new.ensures.batches S c.args.node.0)

pub returns-clause-committed : goal.returns-clause-committed
returns-clause-committed c = committed_none (setup_of c.args.facts.now) (events_of c.args.facts.now) c.args.node.0 c.new-2.result c.requires.empty c.new-2.ensures
