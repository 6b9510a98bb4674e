use Rattle.std.proofs.Common.{◌++◌, ℕ, List, ap, ◌∙◌}
use Rattle.teb_rules.specs.Tree.{path}
use Rattle.phase_api.specs.FactsView.{setup_of, events_of}
use Rattle.store_setup.specs.tree.Grown.{node_numbers}
use Rattle.serial_order.proofs.Places.{on_at, key_starts, spot_told}
use Rattle.serial_order.proofs.booked.Booked.push_key.Goals as goal

pub loop-n-init : goal.loop-n-init
loop-n-init c = ap (λ (ks : List ℕ). c.args.numbers.now.items ++ ks)
    (key_starts (setup_of c.args.self.now.facts.now) (events_of c.args.self.now.facts.now) c.args.t.0 (node_numbers c.path-n-items.result.now)
    (c.path-n-items.ensures.nodes ∙ ap (path (setup_of c.args.self.now.facts.now).tree)
    (spot_told (events_of c.args.self.now.facts.now) c.args.t.0 c.spot.result c.unwrap-spot.result c.spot.ensures.spot c.unwrap-spot.ensures)))

pub rank-requires-clause-here : goal.rank-requires-clause-here
rank-requires-clause-here c = record {
  typed = c.requires.typed;
  on = on_at (setup_of c.args.self.now.facts.now) (events_of c.args.self.now.facts.now) c.args.t.0 c.path-n-items.result.now c.loop-n.n-index (record { 0 = 0 })
      (c.path-n-items.ensures.nodes ∙ ap (path (setup_of c.args.self.now.facts.now).tree)
      (spot_told (events_of c.args.self.now.facts.now) c.args.t.0 c.spot.result c.unwrap-spot.result c.spot.ensures.spot c.unwrap-spot.ensures)) c.loop-n-test.true;
}

pub side-requires-clause-here : goal.side-requires-clause-here
side-requires-clause-here c = record {
  typed = c.requires.typed;
  on = on_at (setup_of c.args.self.now.facts.now) (events_of c.args.self.now.facts.now) c.args.t.0 c.path-n-items.result.now c.loop-n.n-index (record { 0 = 0 })
      (c.path-n-items.ensures.nodes ∙ ap (path (setup_of c.args.self.now.facts.now).tree)
      (spot_told (events_of c.args.self.now.facts.now) c.args.t.0 c.spot.result c.unwrap-spot.result c.spot.ensures.spot c.unwrap-spot.ensures)) c.loop-n-test.true;
}

pub side-requires-clause-spot : goal.side-requires-clause-spot
side-requires-clause-spot c = spot_told (events_of c.args.self.now.facts.now) c.args.t.0 c.spot.result c.unwrap-spot.result c.spot.ensures.spot c.unwrap-spot.ensures
