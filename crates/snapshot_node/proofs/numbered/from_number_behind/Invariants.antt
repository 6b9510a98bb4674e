use Rattle.std.proofs.Common.{◌-◌, ◌<◌, ◌≤◌, length, get_or}
use Rattle.snapshot_node.proofs.numbered.from_number_behind.Given as goal

abbrev pub invariant-loop-start : goal.invariant-loop-start
invariant-loop-start l = record {
  positive : 0 < l.start;
  within : l.start ≤ length l.fn.txns;
  below : (get_or l.fn.txns (l.start - 1) (record { 0 = 0 })).0 < l.fn.first.0;
}

abbrev pub decreases-loop-start : goal.decreases-loop-start
decreases-loop-start l = length l.fn.txns - l.start
