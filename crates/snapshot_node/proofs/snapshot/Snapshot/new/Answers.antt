use Rattle.phase_api.specs.FactsView.{setup_of, events_of}
use Rattle.snapshot_node.proofs.Marked.{marked_none}
use Rattle.snapshot_node.proofs.snapshot.Snapshot.new.Goals as goal

pub returns-clause-stands : goal.returns-clause-stands
returns-clause-stands c = record {
  register = c.in_ok-new.ensures.stands;
  committed = c.in_ok-new.ensures.committed;
  marked = marked_none (setup_of c.args.facts.now) (events_of c.args.facts.now) c.in_ok-new.field-0.node.0 c.new-2.result.items c.requires.empty;
}
