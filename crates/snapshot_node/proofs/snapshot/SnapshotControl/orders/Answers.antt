use Rattle.std.proofs.Common.{◌∙◌, ltb}
use Rattle.phase_api.specs.FactsView.{setup_of, events_of}
use Rattle.snapshot_node.proofs.Said.{snapshot_orders}
use Rattle.snapshot_node.proofs.snapshot.SnapshotControl.orders.Goals as goal

pub returns : goal.returns
returns c = (λ j. ltb (c.put_at.ensures j) (c.put_at-2.ensures j)) ∙ snapshot_orders (setup_of c.args.facts.now) (events_of c.args.facts.now) c.args.self.now.register.node.0 c.args.u.0 c.args.w.0
    c.args.cell c.requires.stands.register.kind
