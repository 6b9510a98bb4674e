use Rattle.std.proofs.Common.{◌≡◌, ◌+◌, ◌<◌, ℕ, suc, false}
use Rattle.chain_pool.specs.Threads.{steps}
use Rattle.chain_pool.specs.Places.{previous_at, pair_at}
use Rattle.chain_pool.proofs.walks.last_accepted.Given as goal

abbrev pub invariant-loop-above : goal.invariant-loop-above
invariant-loop-above g l = record {
  place : 0 < l.fn.chain.head.len → l.place ≡ steps (previous_at l.places) (suc l.above) l.fn.chain.head.first;
  refused : (n : ℕ) → n < l.above → g.F.Fn.post l.f ((pair_at l.places (steps (previous_at l.places) (n + 1) l.fn.chain.head.first)).0, tt) false;
}
