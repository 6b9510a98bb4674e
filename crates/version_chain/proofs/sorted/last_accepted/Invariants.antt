use Rattle.std.proofs.Common.{◌-◌, ◌≤◌, ◌<◌, ℕ, length, false, slice_index_or}
use Rattle.version_chain.specs.declared.sorted.Stored.{Stored}
use Rattle.version_chain.proofs.sorted.last_accepted.Given as goal

abbrev pub invariant-loop-end : goal.invariant-loop-end
invariant-loop-end g l = record {
  within : l.end ≤ length l.chain;
  refused : (j : ℕ) (d : Stored) → l.end ≤ j → j < length l.chain → g.F.Fn.post l.f ((slice_index_or l.chain j d).writer, tt) false;
}

abbrev pub decreases-loop-end : goal.decreases-loop-end
decreases-loop-end g l = l.end - l.from
