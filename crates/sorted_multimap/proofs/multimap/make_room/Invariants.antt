use Rattle.sorted_multimap.proofs.SpreadEntries.{IsMade}
use Rattle.sorted_multimap.proofs.multimap.make_room.Given as goal

abbrev pub invariant-loop-i : goal.invariant-loop-i
invariant-loop-i g l = IsMade g.K.Ord.cmp l.initial.buckets.items l.buckets.items l.i l.room
