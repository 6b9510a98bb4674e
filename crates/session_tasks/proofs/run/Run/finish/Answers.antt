use Rattle.std.proofs.Common.{◌≡◌, ℕ, suc, ◌+◌, ◌-◌, ◌<◌, List, ◌∷◌, ◌++◌, ◌∙◌, All, vec_len, sym, ap, subst, arith}
use Rattle.std.specs.Option.{option_to_list}
use Rattle.std.proofs.lemmas.Result.{err_from_is_err_and}
use Rattle.std.proofs.lemmas.List.Elements.{All-push, All-nil}
use Rattle.teb_rules.specs.declared.names.TheConstants.{SESSIONS}
use Rattle.teb_rules.specs.declared.names.Session.{Session}
use Rattle.teb_rules.specs.history.Phases.{numbers}
use Rattle.turn_lock.specs.Counts.{count_from}
use Rattle.session_tasks.specs.Tasks.{AreTasks, IsTask}
use Rattle.session_tasks.specs.Served.{IsServed}
use Rattle.session_tasks.specs.Errors.{HasFailed}
use Rattle.session_tasks.proofs.FirstErrors.{OfTasks, none_yet as none_failed, of_weaker, one_more, first_error, through_stands}
use Rattle.session_tasks.proofs.InOrder.{all_sessions, none_yet, finish_front, finish_step, sessions_on}
use Rattle.session_tasks.proofs.run.Run.finish.Goals as goal

pub loop-task-init : goal.loop-task-init
loop-task-init g c =
    let h = c.args.self.now.hall.now in
    let x = c.args.self.now.scripts.now in
    let none : vec_len c.in-Ok.passes ≡ 0 = c.in-Ok.ensures.len in record {
      few = omega arith;
      room = c.in-Ok.ensures.exact ∙ c.from.ensures;
      sessions = none_yet h c.in-Ok.passes.items (vec_len c.in-Ok.passes) c.in-Ok.ensures.items none;
      served = subst (All (IsServed h x)) (sym c.in-Ok.ensures.items) (All-nil (IsServed h x));
      none = none_failed (IsTask h x) (vec_len c.in-Ok.passes) none;
      tasks = subst (λ (ns : List ℕ). AreTasks h x ns c.in_ok-tasks.tasks.items) (sym (ap (λ (k : ℕ). count_from (suc k) (SESSIONS - k)) none ∙ all_sessions))
          (subst (AreTasks h x (numbers SESSIONS)) (sym c.in_ok-tasks.ensures.same) c.requires.tasks);
    }

pub loop-task-preserved : goal.loop-task-preserved
loop-task-preserved g c =
    let h = c.args.self.now.hall.now in
    let x = c.args.self.now.scripts.now in
    let inv = c.loop-task.invariant in
    let k = vec_len c.loop-task.passes in
    let t = c.in-Some.task in
    let p = c.in_ok-finish_task.field-0 in
    let us = c.loop-task.tasks.items in
    let ts = c.pop_front.new.self.items in
    let few = inv.few in
    let is : us ≡ t ∷ ts = c.pop_front.ensures.items ∙ ap (λ o. option_to_list o ++ ts) c.in-Some.is in
    let below : k < SESSIONS = finish_front h x k us ts t few inv.tasks is in
    let front = finish_step h x k us ts t below inv.tasks is in
    let u = c.in_ok-finish_task.ensures.through in
    let more : vec_len c.push_reserved.new.self ≡ k + 1 = c.push_reserved.ensures.len in
    let step : suc k ≡ vec_len c.push_reserved.new.self = omega arith in record {
      few = omega arith;
      room = c.push_reserved.ensures.capacity ∙ inv.room;
      sessions = sessions_on h c.loop-task.passes.items c.push_reserved.new.self.items p k inv.sessions (ap (λ (s : Session). s.0) c.in_ok-finish_task.ensures.session ∙ front.session)
          c.push_reserved.ensures.items ∙ ap numbers step;
      served = subst (All (IsServed h x)) (sym c.push_reserved.ensures.items) (All-push (IsServed h x) c.loop-task.passes.items p inv.served c.in_ok-finish_task.ensures.served);
      none = one_more (IsTask h x) k (vec_len c.push_reserved.new.self) u.0 inv.none u.1 (through_stands u.0 u.2)
          (ap (λ (q : _). q.session.0) u.3 ∙ (ap (λ (s : Session). s.0) c.in_ok-finish_task.ensures.session ∙ front.session)) more;
      tasks = subst (λ (n : ℕ). AreTasks h x (count_from (suc n) (SESSIONS - n)) ts) (sym more) front.rest;
    }

pub returns-in_err-finish_task-clause-first : goal.returns-in_err-finish_task-clause-first
returns-in_err-finish_task-clause-first g c =
    let h = c.args.self.now.hall.now in
    let x = c.args.self.now.scripts.now in
    let inv = c.loop-task.invariant in
    let k = vec_len c.loop-task.passes in
    let t = c.in-Some.task in
    let us = c.loop-task.tasks.items in
    let ts = c.pop_front.new.self.items in
    let is : us ≡ t ∷ ts = c.pop_front.ensures.items ∙ ap (λ o. option_to_list o ++ ts) c.in-Some.is in
    let front = finish_step h x k us ts t (finish_front h x k us ts t inv.few inv.tasks is) inv.tasks is in
    let e = c.in_err-finish_task.field-0.0 in
    let p = err_from_is_err_and c.from_residual-in_err-finish_task.result c.from_residual-in_err-finish_task.ensures.1 in
    rw (p.1, p.2)
    (λ _. first_error (IsTask h x) k e inv.none (subst (λ (s : ℕ). HasFailed (IsTask h x) s e) front.session c.in_err-finish_task.ensures.failed))

pub returns-in_err-tasks-clause-first : goal.returns-in_err-tasks-clause-first
returns-in_err-tasks-clause-first g c =
    let h = c.args.self.now.hall.now in
    let x = c.args.self.now.scripts.now in
    let p = err_from_is_err_and c.from_residual.result c.from_residual.ensures.1 in
    rw (p.1, p.2)
    (λ _. of_weaker (OfTasks h x c.args.tasks.items) (IsTask h x) (λ t a. a.0) c.in_err-tasks.field-0.0 c.in_err-tasks.ensures.first)
