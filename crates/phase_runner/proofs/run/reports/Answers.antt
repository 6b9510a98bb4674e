use Rattle.std.proofs.Common.{List, sym, subst}
use Rattle.input_reader.specs.Tasks.{Task}
use Rattle.phase_runner.specs.Steps.{AreFollowing}
use Rattle.phase_runner.proofs.InTurn.{MayGoOn, all_run, all_taken, first_run, may_switch, next_run}
use Rattle.phase_runner.proofs.run.reports.Goals as goal

pub loop-task-init : goal.loop-task-init
loop-task-init c =
    let later = c.pop_front.new.self.items in
    let p = c.in_ok-phases.phases in
    let text = c.first_phase.new.text.items in
    let all = c.in-Some.ensures.items in
    subst (λ (tasks : List Task). MayGoOn tasks later p text) (sym all)
    (first_run c.in-Some.first later p c.new-text.result.items text c.in_ok-phases.ensures.course c.in_ok-phases.ensures.past c.new-text.ensures.items (subst AreFollowing all c.requires)
    c.in_ok-phases.ensures.run)

pub next_phase-requires-clause-may : goal.next_phase-requires-clause-may
next_phase-requires-clause-may c =
    let later = c.pop_front-in-loop-task.new.self.items in
    let p = c.loop-task.phases in
    let text = c.loop-task.text.items in
    may_switch c.args.tasks.items c.in-Some-pop_front.task later p text (subst (λ (tasks : List Task). MayGoOn c.args.tasks.items tasks p text) c.in-Some-pop_front.ensures.items c.loop-task.invariant)

pub loop-task-preserved : goal.loop-task-preserved
loop-task-preserved c =
    let later = c.pop_front-in-loop-task.new.self.items in
    let p = c.loop-task.phases in
    let text = c.loop-task.text.items in
    let ran = c.in_ok-phases-2.ensures in
    next_run c.args.tasks.items c.in-Some-pop_front.task later p c.in_ok-phases-2.phases text c.next_phase.new.text.items
    (subst (λ (tasks : List Task). MayGoOn c.args.tasks.items tasks p text) c.in-Some-pop_front.ensures.items c.loop-task.invariant) ran.course ran.past ran.run.0 ran.run.1 ran.run.2

pub returns : goal.returns
returns c =
    let p = c.loop-task.phases in
    let text = c.loop-task.text.items in
    let none = all_taken c.loop-task.tasks.items c.pop_front-in-loop-task.new.self.items c.in_default-pop_front.ensures.items c.in_default-pop_front.ensures.rest in
    all_run c.args.tasks.items p text (subst (λ (tasks : List Task). MayGoOn c.args.tasks.items tasks p text) none c.loop-task.invariant)
