use Rattle.std.proofs.Common.{◌≡◌, ℕ, ◌+◌, ◌-◌, true, [], All, length, sym, ap, ◌∙◌, subst, arith}
use Rattle.std.proofs.lemmas.List.Elements.{All-push}
use Rattle.crossbeam_queue.specs.Passes.{view}
use Rattle.session_tasks.specs.pool.Tallies.{tally, kept_tally}
use Rattle.session_tasks.specs.pool.Waits.{IsUnused, number_at}
use Rattle.session_tasks.specs.pool.Workers.{IsHired}
use Rattle.session_tasks.specs.declared.pool.tally.Tally.{Tally}
use Rattle.session_tasks.proofs.lemmas.pool.Handing.{forks}
use Rattle.session_tasks.proofs.lemmas.pool.Working.{hired}
use Rattle.session_tasks.proofs.pool.serving.hire.Goals as goal

pub another-token-requires-clause-rule : goal.another-token-requires-clause-rule
another-token-requires-clause-rule g c =
    let inv = c.loop.invariant in
    let parts : (view c.loop.token).parts ≡ 256 - c.loop.counter = ap (λ (u : Tally). u.parts) inv.knows in
    let below = c.loop-test.true in
    let few = c.ranges.workers in
    forks g.J.Roster.numbers number_at (IsUnused g.J.Roster.hall) c.loop.token.id (view c.loop.token) (omega arith)

pub loop-preserved : goal.loop-preserved
loop-preserved g c =
    let inv = c.loop.invariant in
    let a = c.another-token.ensures in record {
      len = c.push_reserved.ensures.len ∙ ap (λ (n : ℕ). n + 1) inv.len;
      room = c.push_reserved.ensures.capacity ∙ inv.room;
      token = (a.queue.0.0 ∙ inv.token.0, a.queue.0.2 ∙ inv.token.1);
      knows = a.rule.0 ∙ (ap kept_tally inv.knows ∙ ap (λ (k : ℕ). tally k true (length g.J.Roster.numbers) []) (let q : 256 - c.loop.counter - 1 ≡ 256 - (c.loop.counter + 1) = omega arith in q));
      workers = subst (All (IsHired c.args.line.now)) (sym c.push_reserved.ensures.items) (All-push (IsHired c.args.line.now) c.loop.hired.items _ inv.workers
          (hired c.args.line.now c.another-token.result c.in_ok-hand.hand a.queue.1 a.rule.1 c.in_ok-hand.ensures.items (c.in_ok-hand.ensures.exact ∙ c.from-in-loop.ensures)));
    }
