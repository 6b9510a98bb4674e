use Rattle.std.proofs.Common.{◌≡◌, ◌<◌, length, ap, ◌∙◌, arith}
use Rattle.teb_rules.specs.declared.names.TheConstants.{SESSIONS}
use Rattle.teb_rules.specs.declared.names.Session.{Session}
use Rattle.crossbeam_queue.specs.Passes.{view}
use Rattle.session_tasks.specs.Tasks.{number_in}
use Rattle.session_tasks.specs.pool.Waits.{IsUnused, number_at}
use Rattle.session_tasks.specs.declared.pool.tally.Tally.{Tally}
use Rattle.session_tasks.proofs.lemmas.pool.Handing.{pops, learns_rest}
use Rattle.session_tasks.proofs.lemmas.pool.Working.{unused_new, rest_on, rest_room, all_taken}
use Rattle.session_tasks.proofs.pool.rest.take_rest.Goals as goal

pub pop_as-requires-clause-rule : goal.pop_as-requires-clause-rule
pop_as-requires-clause-rule g c =
    let w = c.loop-next.invariant.whole in
    let all = w.parts in
    let v = view c.loop-next.token in
    let some_ : 0 < v.parts = omega arith in (
      pops g.J.Roster.numbers number_at (IsUnused g.J.Roster.hall) c.loop-next.token.id v some_,
      learns_rest g.J.Roster.numbers number_at (IsUnused g.J.Roster.hall) c.loop-next.token.id v w.parts w.pushes,
    )

pub begin-requires : goal.begin-requires
begin-requires g c =
    let r = rw c.in-Some.is at c.pop_as.ensures.rule in
    unused_new c.args.run.now.hall.now g.J.Roster.numbers g.J.Roster.hall c.requires.suits c.in-Some.next r.1

pub push_reserved-requires : goal.push_reserved-requires
push_reserved-requires g c =
    let r = rw c.in-Some.is at c.pop_as.ensures.rule in
    let few = c.requires.suits.few in
    let less = r.2.0 in
    let room = rest_room c.args.run.now.hall.now c.args.run.now.scripts.now c.loop-next.hand (view c.loop-next.token) c.loop-next.invariant.first.within
    (let z : length (view c.loop-next.token).taken < SESSIONS = omega arith in z) in
    let a = c.loop-next.invariant.first.room in
    let b = c.loop-next.hand.ok.0 in omega arith

pub loop-next-preserved : goal.loop-next-preserved
loop-next-preserved g c =
    let inv = c.loop-next.invariant in
    let r = rw c.in-Some.is at c.pop_as.ensures.rule in
    let same : number_in c.begin.result ≡ number_at c.in-Some.next = ap (λ (s : Session). s.0) (c.begin.ensures.session ∙ r.1.session) in
    let m = rest_on c.args.run.now.hall.now c.args.run.now.scripts.now c.loop-next.hand c.push_reserved.new.self (view c.loop-next.token) (view c.pop_as.new.pass) c.begin.result
    (number_at c.in-Some.next) (length g.J.Roster.numbers)
    inv.first.tasks inv.first.rising inv.first.within r.0 r.2 c.begin.ensures.task same c.push_reserved.ensures.items in record {
      token = (c.pop_as.ensures.queue.0 ∙ inv.token.0, c.pop_as.ensures.queue.2 ∙ inv.token.1);
      whole = record {
        parts = ap (λ (v : Tally). v.parts) r.0 ∙ inv.whole.parts;
        pushes = ap (λ (v : Tally). v.pushes) r.0 ∙ inv.whole.pushes;
        all = ap (λ (v : Tally). v.pushed) r.0
            ∙ inv.whole.all;
      };
      first = record { tasks = m.tasks; rising = m.rising; within = m.within; room = c.push_reserved.ensures.capacity ∙ inv.first.room };
      kept = λ weight. (let a = m.more weight in let b = inv.kept weight in omega arith);
    }

pub returns-clause-rest : goal.returns-clause-rest
returns-clause-rest g c = λ weight.
    let inv = c.loop-next.invariant in
    let all = all_taken c.args.run.now.hall.now c.args.run.now.scripts.now g.J.Roster.numbers number_at (view c.loop-next.token) inv.whole c.in_default.ensures.rule.1 weight in
    let kept = inv.kept weight in omega arith
