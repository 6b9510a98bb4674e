use Rattle.std.proofs.Common.{ℕ, ◌+◌, ◌<◌, List, ◌++◌, ◌∙◌, length, vec_len, refl, sym, ap, subst, arith, rules}
use Rattle.std.specs.Option.{option_to_list}
use Rattle.session_tasks.specs.Tasks.{AreTasks}
use Rattle.session_tasks.specs.threads.Hands.{AreDealt}
use Rattle.session_tasks.proofs.InOrder.{all_sessions, no_numbers, tasks_none, gathered_on}
use Rattle.session_tasks.proofs.lemmas.threads.Dealing.{gather_some, gather_step}
use Rattle.session_tasks.proofs.threads.gather.gather.Goals as goal

pub loop-passed-init : goal.loop-passed-init
loop-passed-init g c =
    let h = c.args.run.now.hall.now in
    let x = c.args.run.now.scripts.now in record {
      len = c.args.tasks.ok.0 ∙ ap length c.requires.none;
      room = c.requires.room;
      tasks = subst (λ (ns : List ℕ). AreTasks h x ns c.args.tasks.items) (sym no_numbers) (tasks_none h x c.args.tasks.items c.requires.none);
      count = refl;
      dealt = subst (λ (ns : List ℕ). AreDealt h x (vec_len c.args.hands) ns c.args.hands.items) (sym all_sessions) c.requires.dealt;
    }

pub unwrap-task-requires : goal.unwrap-task-requires
unwrap-task-requires g c =
    let inv = c.loop-passed.invariant in
    let u = c.index_mut.result.now in
    let some_ : 0 < length u.items = gather_some c.args.run.now.hall.now c.args.run.now.scripts.now (vec_len c.args.hands) c.loop-passed.passed c.hand_of-hand.result
    (c.loop-passed.passed + 1) c.len.result c.loop-passed.hands.items u
    c.loop-passed-test.true inv.dealt c.hand_of-hand.ensures.hand (c.len.ensures ∙ inv.count) refl c.hand_of-hand.ensures.within c.index_mut.ensures.value in
    search rules

pub loop-passed-preserved : goal.loop-passed-preserved
loop-passed-preserved g c =
    let h = c.args.run.now.hall.now in
    let x = c.args.run.now.scripts.now in
    let k = c.loop-passed.passed in
    let inv = c.loop-passed.invariant in
    let v = c.pop.new.self in
    let t = c.unwrap-task.result in
    let out = gather_step h x (vec_len c.args.hands) k c.hand_of-hand.result (k + 1) c.len.result t c.loop-passed.hands.items _ c.index_mut.result.now v
    c.loop-passed-test.true inv.dealt c.hand_of-hand.ensures.hand (c.len.ensures ∙ inv.count) refl c.hand_of-hand.ensures.within c.index_mut.ensures.value
    (c.pop.ensures.items ∙ ap (λ o. v.items ++ option_to_list o) c.unwrap-task.ensures) refl in record {
      len = c.push_reserved.ensures.len ∙ ap (λ (n : ℕ). n + 1) inv.len;
      room = c.push_reserved.ensures.capacity ∙ inv.room;
      tasks = gathered_on h x k c.loop-passed.tasks.items c.push_reserved.new.self.items t inv.tasks out.task out.session c.push_reserved.ensures.items;
      count = inv.count;
      dealt = out.dealt;
    }
