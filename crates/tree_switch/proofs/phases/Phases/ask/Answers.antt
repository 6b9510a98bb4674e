use Rattle.tree_switch.proofs.GoingOn.{further}
use Rattle.tree_switch.proofs.Starting.{asked}
use Rattle.tree_switch.proofs.phases.Phases.ask.Goals as goal

pub invariant_of-self : goal.invariant_of-self
invariant_of-self g c =
    let e = c.self.inside.present in
    let f = c.ask.new.self in
    further c.self.inside.past.items e f c.ask.ensures.store c.ask.ensures.names
    (asked c.self.inside.past.items e f c.args.session c.args.request c.self.invariant c.ask.ensures.store c.ask.ensures.events) c.self.invariant
