use Rattle.std.proofs.Common.{◌∙◌}
use Rattle.teb_rules.proofs.lemmas.laws.Nodes.{meets_parts}
use Rattle.phase_api.specs.FactsView.{setup_of, events_of}
use Rattle.snapshot_node.proofs.Said.{snapshot_sees}
use Rattle.snapshot_node.proofs.snapshot.SnapshotControl.sees.Goals as goal

pub is_closed_before-requires-clause-left : goal.is_closed_before-requires-clause-left
is_closed_before-requires-clause-left c = record { typed = c.requires.pair.right; on = (meets_parts _ _ _ _ _ c.requires.pair.meet).1 }

pub is_closed_before-requires-clause-right : goal.is_closed_before-requires-clause-right
is_closed_before-requires-clause-right c = record { typed = c.requires.pair.left; on = (meets_parts _ _ _ _ _ c.requires.pair.meet).0 }

pub returns : goal.returns
returns c = c.is_closed_before.ensures ∙ snapshot_sees (setup_of c.args.facts.now) (events_of c.args.facts.now) c.args.self.now.register.node.0 c.args.reader.0 c.args.writer.0 c.args._cell
    c.requires.stands.register.kind
