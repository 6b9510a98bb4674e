use Rattle.std.proofs.Common.{◌≡◌, suc, ◌+◌, ◌<◌, List, [], ◌∷◌, ◌++◌, All, map, append_assoc, sym, ap, ◌∙◌, subst, arith}
use Rattle.std.specs.Option.{option_to_list}
use Rattle.std.specs.VecDeque.{deque_len}
use Rattle.crossbeam_queue.specs.Passes.{view}
use Rattle.turn_lock.specs.Counts.{total}
use Rattle.session_tasks.specs.pool.Tallies.{both_tallies}
use Rattle.session_tasks.specs.pool.Waits.{IsUnused, number_at}
use Rattle.session_tasks.specs.pool.Workers.{HasToken}
use Rattle.session_tasks.specs.declared.pool.tally.Tally.{Tally}
use Rattle.session_tasks.specs.declared.pool.worker.Worker.{Worker}
use Rattle.session_tasks.proofs.lemmas.pool.Handing.{merges}
use Rattle.session_tasks.proofs.lemmas.pool.Working.{weight_on}
use Rattle.session_tasks.proofs.pool.rest.dismiss.Goals as goal

pub absorb-requires-clause-rule : goal.absorb-requires-clause-rule
absorb-requires-clause-rule g c =
    let inv = c.loop-worker.invariant in
    let parts = inv.parts in
    let len = inv.len in
    let few = c.requires.few in
    let some_ : 0 < (view c.loop-worker.token).parts = omega arith in
    merges g.J.Roster.numbers number_at (IsUnused g.J.Roster.hall) c.loop-worker.token.id (view c.loop-worker.token) c.in-Some.worker.token.id (view c.in-Some.worker.token) some_

pub loop-worker-preserved : goal.loop-worker-preserved
loop-worker-preserved g c =
    let inv = c.loop-worker.invariant in
    let w = c.in-Some.worker in
    let ws = c.loop-worker.workers in
    let us = c.pop_front.new.self in
    let hs = c.loop-worker.hands.items in
    let is : ws.items ≡ w ∷ us.items = c.pop_front.ensures.items ∙ ap (λ o. option_to_list o ++ us.items) c.in-Some.is in
    let a : All (HasToken c.args.line.now) (w ∷ us.items) = subst (All (HasToken c.args.line.now)) is inv.workers in
    let first : HasToken c.args.line.now w = a 0 w (omega arith) in
    let less : deque_len ws ≡ deque_len us + 1 = (let z = c.in-Some.ensures.len in omega arith) in
    let rule : view c.absorb.new.pass ≡ both_tallies (view c.loop-worker.token) (view w.token) = c.absorb.ensures.rule in
    let one : (view w.token).parts ≡ 1 = ap (λ (v : Tally). v.parts) first.knows in
    let sum : (view c.absorb.new.pass).parts ≡ (view c.loop-worker.token).parts + (view w.token).parts = ap (λ (v : Tally). v.parts) rule in
    let more = c.push_reserved.ensures.len in
    let len = inv.len in
    let parts = inv.parts in record {
      len = omega arith;
      room = c.push_reserved.ensures.capacity ∙ inv.room;
      token = (c.absorb.ensures.queue.0 ∙ inv.token.0, c.absorb.ensures.queue.2 ∙ inv.token.1);
      parts = omega arith;
      pushes = ap (λ (v : Tally). v.pushes) rule ∙ inv.pushes;
      pushed = ap (λ (v : Tally). v.pushed) rule ∙ inv.pushed;
      shared = λ weight. weight_on weight hs c.push_reserved.new.self.items w.hand (view c.loop-worker.token).taken (view w.token).taken (inv.shared weight) (ap (λ (v : Tally). v.taken) first.knows)
          c.push_reserved.ensures.items
          ∙ sym (ap (λ (v : Tally). total weight v.taken) rule);
      hands = ap (λ l. l ++ map (λ (v : Worker g.row.C.Denot _). v.hand) us.items) c.push_reserved.ensures.items
          ∙ (append_assoc hs (w.hand ∷ []) (map (λ (v : Worker g.row.C.Denot _). v.hand) us.items)
          ∙ (ap (λ (l : List (Worker g.row.C.Denot _)). hs ++ map (λ v. v.hand) l) (sym is) ∙ inv.hands));
      workers = λ k d l. a (suc k) d (omega arith);
    }
