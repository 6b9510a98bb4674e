use Rattle.std.proofs.Common.{◌≡◌, length, arith}
use Rattle.phase_api.specs.FactsView.{setup_of, events_of}
use Rattle.engine_core.specs.AnyControls.{any_node_number, any_stands}
use Rattle.engine_core.proofs.Starting.{first_more, first_all}
use Rattle.engine_core.proofs.any_control.controls_of.Goals as goal

pub loop-n-preserved : goal.loop-n-preserved
loop-n-preserved c = first_more any_node_number any_stands (setup_of c.args.facts.now) (events_of c.args.facts.now) c.loop-n.controls.items c.push.new.self.items c.in_ok-control_of.field-0 c.loop-n.n
    c.loop-n.invariant c.in_ok-control_of.ensures.node_number c.in_ok-control_of.ensures.stands c.in_ok-push.ensures.items

pub returns : goal.returns
returns c =
    let e : c.loop-n.n ≡ length (setup_of c.args.facts.now).tree = (let n = c.len-n-end.ensures.count in omega arith) in
    first_all any_node_number any_stands (setup_of c.args.facts.now) (events_of c.args.facts.now) c.loop-n.controls.items c.loop-n.n c.loop-n.invariant e
