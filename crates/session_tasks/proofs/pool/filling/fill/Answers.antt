use Rattle.std.proofs.Common.{◌≡◌, ℕ, ◌+◌, ◌-◌, true, [], ◌++◌, length, map, drop, sym, ap, ◌∙◌, arith}
use Rattle.std.specs.Option.{option_to_list}
use Rattle.std.specs.VecDeque.{deque_len}
use Rattle.std.proofs.lemmas.List.{length-map}
use Rattle.crossbeam_queue.specs.Passes.{view}
use Rattle.session_tasks.specs.pool.Tallies.{tally, after_push}
use Rattle.session_tasks.specs.pool.Waits.{IsUnused, number_at}
use Rattle.session_tasks.specs.declared.pool.tally.Tally.{Tally}
use Rattle.session_tasks.proofs.lemmas.pool.Pushing.{fill_step}
use Rattle.session_tasks.proofs.lemmas.pool.Handing.{pushes, learns_room}
use Rattle.session_tasks.proofs.pool.filling.fill.Goals as goal

pub loop-next-init : goal.loop-next-init
loop-next-init g c =
    let ns = g.J.Roster.numbers in
    let d = deque_len c.args.waiting in
    let z = c.args.waiting.ok.0 in
    let a = length-map c.args.waiting.items (number_at {C = g.row.C.Denot}) in
    let b : length (map number_at c.args.waiting.items) ≡ length ns = ap length c.requires.roster.numbers in
    let n : length ns - d ≡ 0 = omega arith in record {
      few = omega arith;
      token = c.requires.token.0;
      knows = c.requires.token.1 ∙ ap (λ (k : ℕ). tally 256 true k []) (sym n);
      left = c.requires.roster.numbers ∙ ap (λ (k : ℕ). drop k ns) (sym n);
      fits = c.requires.roster.unused;
    }

pub push_as-requires-clause-rule : goal.push_as-requires-clause-rule
push_as-requires-clause-rule g c =
    let ns = g.J.Roster.numbers in
    let inv = c.loop-next.invariant in
    let v = view c.loop-next.token in
    let ws = c.loop-next.waiting in
    let us = c.pop_front.new.self in
    let less : deque_len ws ≡ deque_len us + 1 = (let z = c.in-Some.ensures.len in omega arith) in
    let s = fill_step ns number_at (IsUnused g.J.Roster.hall) (deque_len ws) (deque_len us) ws.items us.items c.in-Some.next less inv.few inv.left
    (c.pop_front.ensures.items ∙ ap (λ o. option_to_list o ++ us.items) c.in-Some.is) inv.fits in
    let may : v.pushes ≡ true = ap (λ (u : Tally). u.pushes) inv.knows in
    let at : v.pushed ≡ length ns - deque_len ws = ap (λ (u : Tally). u.pushed) inv.knows in (
      pushes ns number_at (IsUnused g.J.Roster.hall) _ c.loop-next.token.id v c.in-Some.next may (rw at s.next) s.fit,
      learns_room ns number_at (IsUnused g.J.Roster.hall) c.loop-next.token.id v may,
    )

pub loop-next-preserved : goal.loop-next-preserved
loop-next-preserved g c =
    let ns = g.J.Roster.numbers in
    let inv = c.loop-next.invariant in
    let ws = c.loop-next.waiting in
    let us = c.pop_front.new.self in
    let less : deque_len ws ≡ deque_len us + 1 = (let z = c.in-Some.ensures.len in omega arith) in
    let few = inv.few in
    let s = fill_step ns number_at (IsUnused g.J.Roster.hall) (deque_len ws) (deque_len us) ws.items us.items c.in-Some.next less inv.few inv.left
    (c.pop_front.ensures.items ∙ ap (λ o. option_to_list o ++ us.items) c.in-Some.is) inv.fits in
    let pushed : view c.push_as.new.pass ≡ after_push (view c.loop-next.token) = rw c.in-Ok.is at c.push_as.ensures.rule in record {
      few = omega arith;
      token = (c.push_as.ensures.queue.0 ∙ inv.token.0, c.push_as.ensures.queue.2 ∙ inv.token.1);
      knows = pushed ∙ (ap after_push inv.knows ∙ ap (λ (k : ℕ). tally 256 true k []) (let q : length ns - deque_len ws + 1 ≡ length ns - deque_len us = omega arith in q));
      left = s.left;
      fits = s.rest;
    }

pub returns : goal.returns
returns g c =
    let inv = c.loop-next.invariant in
    let none : deque_len c.loop-next.waiting ≡ 0 = c.in_default.ensures.cases.0 in
    record { token = (inv.token, inv.knows ∙ ap (λ (k : ℕ). tally 256 true k []) (let q : length g.J.Roster.numbers - deque_len c.loop-next.waiting ≡ length g.J.Roster.numbers = omega arith in q)) }
