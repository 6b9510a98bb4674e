use Rattle.std.proofs.Common.{◌≡◌, ◌+◌, ◌<◌, List, length, get_or, refl, sym, ap, ◌∙◌, subst, arith}
use Rattle.std.proofs.lemmas.List.{get_or_default}
use Rattle.session_tasks.specs.Errors.{error_of}
use Rattle.session_tasks.specs.Tasks.{IsTask}
use Rattle.session_tasks.specs.declared.task.Task.{Task}
use Rattle.session_tasks.proofs.FirstErrors.{OfTasks, each_of, none_yet, one_more, first_error, session_at}
use Rattle.session_tasks.proofs.run.Run.none_failed.Goals as goal

pub fail-requires-clause-task : goal.fail-requires-clause-task
fail-requires-clause-task g c =
    let h = c.args.self.now.hall.now in
    let x = c.args.self.now.scripts.now in
    let same : length c.loop-i.tasks.items ≡ length c.args.tasks.items = ap length c.loop-i.invariant.same in
    let z = c.args.tasks.ok.0 in
    let y = c.len-i-end.ensures in
    let below : c.loop-i.i < length c.args.tasks.items = omega arith in
    subst (IsTask h x) (sym (c.swap_remove.ensures.value ∙ ap (λ (ws : List (Task g.row.C.Denot _)). get_or ws c.loop-i.i c.swap_remove.result) c.loop-i.invariant.same))
    (c.requires.each c.loop-i.i c.swap_remove.result below)

pub loop-i-init : goal.loop-i-init
loop-i-init g c = record { same = refl; none = none_yet (OfTasks c.args.self.now.hall.now c.args.self.now.scripts.now c.args.tasks.items) 0 refl }

pub loop-i-preserved : goal.loop-i-preserved
loop-i-preserved g c =
    let h = c.args.self.now.hall.now in
    let x = c.args.self.now.scripts.now in
    let ts = c.args.tasks.items in
    let i = c.loop-i.i in
    let t = c.index.result.now in
    let inv = c.loop-i.invariant in
    let is : t ≡ get_or ts i t = c.index.ensures ∙ ap (λ (ws : List (Task g.row.C.Denot _)). get_or ws i t) inv.same in
    let low : i < length ts = omega (arith, c.args.tasks.ok.0, c.len-i-end.ensures, c.loop-i-test.true) in
    record {
      same = inv.same;
      none = one_more (OfTasks h x ts) i (i + 1) t inv.none (subst (OfTasks h x ts) (sym is) (each_of h x ts c.requires i t low)) c.in_default.not-Failed (session_at h x
          ts c.requires i t low is) refl;
    }

pub returns-in-Failed-clause-first : goal.returns-in-Failed-clause-first
returns-in-Failed-clause-first g c =
    let h = c.args.self.now.hall.now in
    let x = c.args.self.now.scripts.now in
    let ts = c.args.tasks.items in
    let i = c.loop-i.i in
    let t = c.index.result.now in
    let u = c.swap_remove.result in
    let inv = c.loop-i.invariant in
    let is : t ≡ get_or ts i t = c.index.ensures ∙ ap (λ (ws : List (Task g.row.C.Denot _)). get_or ws i t) inv.same in
    let low : i < length ts = omega (arith, c.args.tasks.ok.0, c.len-i-end.ensures, c.loop-i-test.true) in
    let there : i < length c.loop-i.tasks.items = omega (arith, low, ap length inv.same) in
    let taken : u ≡ t = c.swap_remove.ensures.value ∙ get_or_default c.loop-i.tasks.items i u t there ∙ sym c.index.ensures in
    first_error (OfTasks h x ts) i c.fail.result inv.none (record {
      task = t;
      is = subst (OfTasks h x ts) (sym is) (each_of h x ts c.requires i t low);
      session = session_at h x ts c.requires i t low is;
      error = c.in-Failed.error;
      failed = c.in-Failed.is;
      told = c.fail.ensures.error ∙ ap (λ (q : Task g.row.C.Denot _). error_of q.pass c.in-Failed.error) taken;
    })

pub returns-clause-same : goal.returns-clause-same
returns-clause-same g c = c.from.ensures.0 ∙ c.loop-i.invariant.same
