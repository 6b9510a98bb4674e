use Rattle.std.proofs.Common.{◌≤◌}
use Rattle.sorted_multimap.specs.Buckets.{tops}
use Rattle.sorted_multimap.proofs.bucket.end_from.Given as goal

abbrev pub invariant-loop-i : goal.invariant-loop-i
invariant-loop-i g l = l.i ≤ tops g.K.Ord.cmp l.keys l.key
