use Rattle.std.proofs.Common.{◌∙◌, ◌-◌, map, ap}
use Rattle.teb_rules.specs.declared.names.Session.{Session}
use Rattle.session_tasks.specs.Tasks.{number_in}
use Rattle.session_tasks.proofs.InOrder.{tasks_set}
use Rattle.session_tasks.proofs.threads.worker.serve_hand.Goals as goal

pub loop-i-preserved : goal.loop-i-preserved
loop-i-preserved g c =
    let d = c.index_mut.result.now in (
      c.loop-i.invariant.0,
      tasks_set c.args.run.now.hall.now c.args.run.now.scripts.now (map number_in c.args.hand.now.items) c.loop-i.hand.items (c.loop-i.i - 1) c.serve.new.task d c.loop-i.invariant.1
          c.serve.ensures.task
          (ap (λ (s : Session). s.0) c.serve.ensures.session ∙ ap number_in c.index_mut.ensures.value),
    )

pub returns-then-not-serve : goal.returns-then-not-serve
returns-then-not-serve g c =
    let d = c.index_mut.result.now in
    tasks_set c.args.run.now.hall.now c.args.run.now.scripts.now (map number_in c.args.hand.now.items) c.loop-i.hand.items (c.loop-i.i - 1) c.serve.new.task d c.loop-i.invariant.1
    c.serve.ensures.task
    (ap (λ (s : Session). s.0) c.serve.ensures.session ∙ ap number_in c.index_mut.ensures.value)
