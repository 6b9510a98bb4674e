use Rattle.std.proofs.Common.{◌≡◌, filter, length}
use Rattle.teb_rules.specs.history.Phases.{aborted, committed, numbers}
use Rattle.shop_load.proofs.summary.counts_of.Given as goal

-- the counts among the transactions so far
abbrev pub invariant-loop-i : goal.invariant-loop-i
invariant-loop-i l = record {
  committed : l.counts.committed ≡ length (filter (committed l.history.events) (numbers l.i));
  aborted : l.counts.aborted ≡ length (filter (aborted l.history.events) (numbers l.i));
}
