use Rattle.std.proofs.lemmas.Result.{IfOk-weaker}
use Rattle.teb_rules.specs.history.Phases.{txns}
use Rattle.teb_rules.proofs.lemmas.laws.Sound.{tree_facts}
use Rattle.phase_api.specs.FactsView.{setup_of, events_of}
use Rattle.serial_order.specs.Edges.{AreMarked, MarkEdges}
use Rattle.serial_order.proofs.EdgesOut.{root_marks, no_marks}
use Rattle.serial_order.proofs.OfControls.{snapshot_stands, snapshot_there, no_snapshot}
use Rattle.serial_order.proofs.booked.Booked.edges_out.Goals as goal

pub edges_at-requires-clause-stands : goal.edges_at-requires-clause-stands
edges_at-requires-clause-stands c = snapshot_stands (setup_of c.args.self.now.facts.now) (events_of c.args.self.now.facts.now) 0 c.control_at.result.now c.control_at.ensures.node_number
    c.control_at.ensures.stands c.in-Snapshot.root c.in-Snapshot.is

pub edges_at-requires-clause-root : goal.edges_at-requires-clause-root
edges_at-requires-clause-root c = snapshot_there (setup_of c.args.self.now.facts.now) (events_of c.args.self.now.facts.now) 0 c.control_at.result.now c.control_at.ensures.node_number
    c.control_at.ensures.stands c.in-Snapshot.root c.in-Snapshot.is

pub returns-in-Snapshot : goal.returns-in-Snapshot
returns-in-Snapshot c = IfOk-weaker c.edges_at.result (λ v. AreMarked (setup_of c.args.self.now.facts.now) (events_of c.args.self.now.facts.now) 0 (txns (events_of c.args.self.now.facts.now)) v.items)
    (λ v. MarkEdges (setup_of c.args.self.now.facts.now) (events_of c.args.self.now.facts.now) v.items)
    (λ v m. root_marks (setup_of c.args.self.now.facts.now) (tree_facts (setup_of c.args.self.now.facts.now) c.args.self.now.sound) (events_of c.args.self.now.facts.now) v.items c.args.self.now.lawful
    m)
    c.edges_at.ensures

pub returns-in_default : goal.returns-in_default
returns-in_default c = no_marks (setup_of c.args.self.now.facts.now) (tree_facts (setup_of c.args.self.now.facts.now) c.args.self.now.sound) (events_of c.args.self.now.facts.now) c.new.result.items
    (no_snapshot (setup_of c.args.self.now.facts.now) (events_of c.args.self.now.facts.now) 0 c.control_at.result.now c.control_at.ensures.node_number c.control_at.ensures.stands
    c.in_default.not-Snapshot)
