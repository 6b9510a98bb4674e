use Rattle.tree_switch.proofs.GoingOn.{further}
use Rattle.tree_switch.proofs.Starting.{same_events}
use Rattle.tree_switch.proofs.phases.Phases.ready.Goals as goal

pub invariant_of-self : goal.invariant_of-self
invariant_of-self g c =
    let e = c.self.inside.present in
    let f = c.ready.new.self in
    further c.self.inside.past.items e f c.ready.ensures.store c.ready.ensures.names (same_events c.self.inside.past.items e f c.self.invariant c.ready.ensures.store c.ready.ensures.events)
    c.self.invariant
