use Rattle.std.proofs.Common.{◌≡◌, suc, ◌++◌, length, vec_len, sym, ap, ◌∙◌, arith}
use Rattle.std.specs.Option.{is_some, option_to_list}
use Rattle.std.specs.VecDeque.{deque_len}
use Rattle.session_tasks.proofs.InOrder.{all_passes}
use Rattle.session_tasks.proofs.lemmas.pool.Dividing.{divided_first, last_new, waits_on, idles_on, divided_last}
use Rattle.session_tasks.proofs.pool.divide.divide.Goals as goal
use Rattle.teb_rules.specs.declared.names.TheConstants.{SESSIONS}

pub loop-pass-init : goal.loop-pass-init
loop-pass-init g c =
    let h = c.args.start.run.now.hall.now in
    let n = vec_len c.args.start.passes in
    let all : n ≡ SESSIONS = all_passes h c.args.start.passes.items n (let z = c.args.start.passes.ok.0 in let e : length c.args.start.passes.items ≡ n = omega arith in e) c.args.start.sessions in
    let a : deque_len c.in_ok-waiting.waiting ≡ 0 = c.in_ok-waiting.ensures.len in
    let b : vec_len c.in_ok-idle.idle ≡ 0 = c.in_ok-idle.ensures.len in record {
      divided = divided_first h c.args.start.run.now.scripts.now n c.args.start.passes.items c.in_ok-waiting.waiting.items c.in_ok-idle.idle.items all c.args.start.sessions c.args.start.new
          c.in_ok-waiting.ensures.items c.in_ok-idle.ensures.items;
      count = omega arith;
      waiting_room = c.in_ok-waiting.ensures.exact ∙ c.from.ensures;
      idle_room = c.in_ok-idle.ensures.exact ∙ c.from-2.ensures;
    }

pub begin-requires : goal.begin-requires
begin-requires g c =
    let ps = c.loop-pass.passes in
    let qs = c.pop.new.self in
    let less : vec_len ps ≡ suc (vec_len qs) = (let z = c.in-Some.ensures.len in omega arith) in
    last_new c.args.start.run.now.hall.now c.args.start.run.now.scripts.now (vec_len ps) (vec_len qs) ps.items qs.items c.in-Some.pass c.loop-pass.waiting.items c.loop-pass.idle.items
    c.loop-pass.invariant.divided
    (c.pop.ensures.items ∙ ap (λ o. qs.items ++ option_to_list o) c.in-Some.is) less

pub loop-pass-preserved-then-is_some : goal.loop-pass-preserved-then-is_some
loop-pass-preserved-then-is_some g c =
    let x = c.args.start.run.now.scripts.now in
    let ps = c.loop-pass.passes in
    let qs = c.pop.new.self in
    let less : vec_len ps ≡ suc (vec_len qs) = (let z = c.in-Some.ensures.len in omega arith) in
    let count = c.loop-pass.invariant.count in
    let more = c.push_front_reserved.ensures.len in record {
      divided = waits_on c.args.start.run.now.hall.now x (vec_len ps) (vec_len qs) ps.items qs.items c.in-Some.pass c.session-session.result c.loop-pass.waiting.items
          c.push_front_reserved.new.self.items
          c.loop-pass.idle.items c.loop-pass.invariant.divided
          (c.pop.ensures.items ∙ ap (λ o. qs.items ++ option_to_list o) c.in-Some.is) less c.session-session.ensures (ap is_some (sym c.place_in.ensures) ∙ (sym c.is_some.ensures ∙ c.if-is_some.true))
          c.push_front_reserved.ensures.items;
      count = omega arith;
      waiting_room = c.push_front_reserved.ensures.capacity ∙ c.loop-pass.invariant.waiting_room;
      idle_room = c.loop-pass.invariant.idle_room;
    }

pub loop-pass-preserved : goal.loop-pass-preserved
loop-pass-preserved g c =
    let x = c.args.start.run.now.scripts.now in
    let ps = c.loop-pass.passes in
    let qs = c.pop.new.self in
    let less : vec_len ps ≡ suc (vec_len qs) = (let z = c.in-Some.ensures.len in omega arith) in
    let count = c.loop-pass.invariant.count in
    let more = c.push_reserved.ensures.len in record {
      divided = idles_on c.args.start.run.now.hall.now x (vec_len ps) (vec_len qs) ps.items qs.items c.in-Some.pass c.session-session.result c.begin.result
          c.loop-pass.waiting.items c.loop-pass.idle.items
          c.push_reserved.new.self.items c.loop-pass.invariant.divided
          (c.pop.ensures.items ∙ ap (λ o. qs.items ++ option_to_list o) c.in-Some.is) less c.session-session.ensures
          (ap is_some (sym c.place_in.ensures) ∙ (sym c.is_some.ensures ∙ c.if-is_some.false)) c.begin.ensures.task c.begin.ensures.session c.push_reserved.ensures.items;
      count = omega arith;
      waiting_room = c.loop-pass.invariant.waiting_room;
      idle_room = c.push_reserved.ensures.capacity ∙ c.loop-pass.invariant.idle_room;
    }

pub returns-clause-waiting : goal.returns-clause-waiting
returns-clause-waiting g c = record {
  numbers = (divided_last c.args.start.run.now.hall.now c.args.start.run.now.scripts.now (vec_len c.loop-pass.passes) c.loop-pass.passes.items c.loop-pass.waiting.items
      c.loop-pass.idle.items c.in_default.ensures.cases.0
      c.loop-pass.invariant.divided).waits;
  each = c.loop-pass.invariant.divided.fitting;
}

pub returns-clause-all : goal.returns-clause-all
returns-clause-all g c =
    (divided_last c.args.start.run.now.hall.now c.args.start.run.now.scripts.now (vec_len c.loop-pass.passes) c.loop-pass.passes.items c.loop-pass.waiting.items
    c.loop-pass.idle.items c.in_default.ensures.cases.0
    c.loop-pass.invariant.divided).all
