use Rattle.std.proofs.Common.{map, ap, ◌∙◌, arith}
use Rattle.std.proofs.lemmas.List.Sorted.{All-permutation}
use Rattle.session_tasks.specs.Tasks.{IsTask}
use Rattle.session_tasks.specs.pool.Hands.{taken_in}
use Rattle.session_tasks.proofs.lemmas.pool.Takings.{hands_taken, tasks_all, tasks_weigh}
use Rattle.session_tasks.proofs.pool.run.serve_all.Goals as goal

pub returns-clause-taken : goal.returns-clause-taken
returns-clause-taken g c =
    hands_taken c.args.start.run.now.hall.now c.args.start.run.now.scripts.now c.args.workers.number c.in_ok-hands.hands.items _ c.in_ok-hands.ensures
    (c.in_ok-taken.ensures ∙ ap (map taken_in) c.deref.ensures.value)

pub returns-clause-tasks : goal.returns-clause-tasks
returns-clause-tasks g c =
    let is_task = IsTask c.args.start.run.now.hall.now c.args.start.run.now.scripts.now in record {
      numbers = c.in_order.ensures.sessions;
      each = All-permutation is_task c.in_ok-tasks.tasks.items c.in_order.result.items c.in_order.ensures.same
          (tasks_all is_task c.in_ok-divided.divided.idle.items c.in_ok-tasks.tasks.items c.in_ok-hands.hands.items c.in_ok-tasks.ensures c.in_ok-divided.ensures.idle c.in_ok-hands.ensures.tasks);
    }

pub in_order-requires : goal.in_order-requires
in_order-requires g c = λ weight.
    let a = tasks_weigh weight c.in_ok-divided.divided.idle.items c.in_ok-tasks.tasks.items c.in_ok-hands.hands.items c.in_ok-tasks.ensures in
    let b = c.in_ok-divided.ensures.all weight in
    let d = c.in_ok-hands.ensures.shared weight in omega arith
