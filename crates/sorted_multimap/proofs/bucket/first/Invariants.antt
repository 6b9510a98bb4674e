use Rattle.sorted_multimap.proofs.SortedEntries.{FirstLow}
use Rattle.sorted_multimap.proofs.bucket.first.Given as goal

abbrev pub invariant-loop-i : goal.invariant-loop-i
invariant-loop-i g l = FirstLow g.K.Ord.cmp l.keys l.key l.i
