use Rattle.std.proofs.Common.{ap, arith}
use Rattle.teb_rules.specs.declared.names.Session.{Session}
use Rattle.session_tasks.specs.Tasks.{number_in}
use Rattle.session_tasks.proofs.lemmas.pool.Working.{at_work_on, at_work_room}
use Rattle.session_tasks.proofs.pool.serving.serve.Goals as goal

pub push_reserved-requires : goal.push_reserved-requires
push_reserved-requires g c =
    let w = c.loop-task.worker in
    let inv = c.loop-task.invariant in
    let t = rw c.in-Some.is at c.take.ensures.taken in
    let l = at_work_room c.args.run.now.hall.now c.args.run.now.scripts.now c.args.line.now w inv t.1.0 in
    let z = w.hand.ok.0 in
    let r = inv.room in omega arith

pub loop-task-preserved : goal.loop-task-preserved
loop-task-preserved g c =
    let t = rw c.in-Some.is at c.take.ensures.taken in
    at_work_on c.args.run.now.hall.now c.args.run.now.scripts.now c.args.line.now c.loop-task.worker c.take.new.token c.push_reserved.new.self c.serve-goes_on.new.task
    (number_in c.in-Some.task) c.loop-task.invariant c.take.ensures.token t.0 t.1
    c.serve-goes_on.ensures.task (ap (λ (s : Session). s.0) c.serve-goes_on.ensures.session) c.push_reserved.ensures.items c.push_reserved.ensures.capacity

pub returns-then-not-goes_on : goal.returns-then-not-goes_on
returns-then-not-goes_on g c =
    let t = rw c.in-Some.is at c.take.ensures.taken in
    at_work_on c.args.run.now.hall.now c.args.run.now.scripts.now c.args.line.now c.loop-task.worker c.take.new.token c.push_reserved.new.self c.serve-goes_on.new.task
    (number_in c.in-Some.task) c.loop-task.invariant c.take.ensures.token t.0 t.1
    c.serve-goes_on.ensures.task (ap (λ (s : Session). s.0) c.serve-goes_on.ensures.session) c.push_reserved.ensures.items c.push_reserved.ensures.capacity
