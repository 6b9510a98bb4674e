use Rattle.std.proofs.Common.{◌≡◌, ℕ, suc, ◌-◌, ◌++◌, ◌∙◌, length, vec_len, refl, sym, ap, subst, arith}
use Rattle.std.specs.Option.{option_to_list}
use Rattle.teb_rules.specs.declared.names.TheConstants.{SESSIONS}
use Rattle.teb_rules.specs.declared.names.Session.{Session}
use Rattle.teb_rules.specs.history.Phases.{numbers}
use Rattle.turn_lock.specs.Counts.{count_from}
use Rattle.session_tasks.specs.threads.Hands.{AreDealt, hand_of}
use Rattle.session_tasks.proofs.InOrder.{all_passes, all_sessions, last_of}
use Rattle.session_tasks.proofs.lemmas.threads.Dealing.{deal_step, dealt_none}
use Rattle.session_tasks.proofs.threads.deal.deal.Goals as goal

pub loop-pass-init : goal.loop-pass-init
loop-pass-init g c =
    let h = c.args.start.run.now.hall.now in
    let x = c.args.start.run.now.scripts.now in
    let n = vec_len c.args.start.passes in
    let hands = c.in_ok-hands.hands in
    let all : n ≡ SESSIONS = all_passes h c.args.start.passes.items n (let z = c.args.start.passes.ok.0 in let e : length c.args.start.passes.items ≡ n = omega arith in e) c.args.start.sessions in
    let many : length hands.items ≡ c.args.workers = (let z = hands.ok.0 in let y = c.in_ok-hands.ensures.len in omega arith) in record {
      few = omega arith;
      sessions = c.args.start.sessions ∙ ap numbers (sym all);
      new = c.args.start.new;
      dealt = subst (λ (k : ℕ). AreDealt h x c.args.workers (count_from (suc k) (SESSIONS - k)) hands.items) (sym all) (dealt_none h x c.args.workers hands.items many c.in_ok-hands.ensures.empty);
    }

pub begin-requires : goal.begin-requires
begin-requires g c =
    let ps = c.loop-pass.passes in
    let qs = c.pop.new.self in
    let less : vec_len ps ≡ suc (vec_len qs) = (let z = c.in-Some.ensures.len in omega arith) in
    (last_of c.args.start.run.now.hall.now ps.items qs.items c.in-Some.pass (vec_len ps) (vec_len qs) (c.pop.ensures.items ∙ ap (λ o. qs.items ++ option_to_list o) c.in-Some.is) less
    c.loop-pass.invariant.sessions c.loop-pass.invariant.new).last_new

pub loop-pass-preserved : goal.loop-pass-preserved
loop-pass-preserved g c =
    let h = c.args.start.run.now.hall.now in
    let x = c.args.start.run.now.scripts.now in
    let w = c.args.workers in
    let ps = c.loop-pass.passes in
    let qs = c.pop.new.self in
    let less : vec_len ps ≡ suc (vec_len qs) = (let z = c.in-Some.ensures.len in omega arith) in
    let few = c.loop-pass.invariant.few in
    let l = last_of h ps.items qs.items c.in-Some.pass (vec_len ps) (vec_len qs) (c.pop.ensures.items ∙ ap (λ o. qs.items ++ option_to_list o) c.in-Some.is) less c.loop-pass.invariant.sessions
    c.loop-pass.invariant.new in record {
      few = omega arith;
      sessions = l.sessions;
      new = l.new;
      dealt = deal_step h x w (vec_len ps) (vec_len qs) c.hand_of-hand.result c.begin.result c.loop-pass.hands.items _ c.index_mut.result.now c.push.new.self less few c.loop-pass.invariant.dealt
          (c.hand_of-hand.ensures.hand ∙ (ap (λ (s : Session). hand_of x w s.0) c.session.ensures ∙ ap (hand_of x w) l.last)) c.hand_of-hand.ensures.within
          c.begin.ensures.task (ap (λ (s : Session). s.0) c.begin.ensures.session ∙ l.last) c.index_mut.ensures.value c.in_ok-push.ensures.items refl;
    }

pub returns : goal.returns
returns g c =
    let h = c.args.start.run.now.hall.now in
    let x = c.args.start.run.now.scripts.now in
    let none : vec_len c.loop-pass.passes ≡ 0 = c.in_default.ensures.cases.0 in
    subst (λ ns. AreDealt h x c.args.workers ns c.loop-pass.hands.items) (ap (λ (k : ℕ). count_from (suc k) (SESSIONS - k)) none ∙ all_sessions) c.loop-pass.invariant.dealt
