use Rattle.sorted_multimap.proofs.SpreadEntries.{AreNew}
use Rattle.sorted_multimap.proofs.multimap.empty_buckets.Given as goal

abbrev pub invariant-loop : goal.invariant-loop
invariant-loop g l = AreNew g.K.Ord.cmp l.buckets.items l.counter
