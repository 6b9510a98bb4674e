use Rattle.std.proofs.Common.{sym, subst}
use Rattle.store_setup.specs.SetupView.{setup_view}
use Rattle.tree_switch.specs.Courses.{Course}
use Rattle.tree_switch.specs.Refusals.{IsCause}
use Rattle.tree_switch.specs.Starts.{IsStarted}
use Rattle.tree_switch.proofs.Starting.{present, moved_on}
use Rattle.tree_switch.proofs.phases.Phases.switch.Goals as goal

pub returns-in-Err-clause-refused : goal.returns-in-Err-clause-refused
returns-in-Err-clause-refused g c = subst (λ (p : Course). IsCause p.present (setup_view c.args.setup) c.in-Err.why) c.self.view_is c.in-Err.ensures

pub start-requires-clause-engine : goal.start-requires-clause-engine
start-requires-clause-engine g c = present c.self.inside.past.items c.self.inside.present c.self.invariant

pub invariant_of-self-2 : goal.invariant_of-self-2
invariant_of-self-2 g c =
    moved_on c.args.setup c.self.inside.past.items c.move_on.new.past.items c.self.inside.present c.move_on.new.present c.requires.setup c.in_default.ensures.tables
    (subst (IsStarted c.args.setup c.self.inside.present) (sym c.in_ok-move_on.ensures.present) c.in_ok-next.ensures) c.in_ok-move_on.ensures.past c.self.invariant
