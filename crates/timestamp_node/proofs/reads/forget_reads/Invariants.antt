use Rattle.std.proofs.Common.{◌≡◌}
use Rattle.teb_rules.specs.declared.names.Cell.{Cell}
use Rattle.teb_rules.specs.names.Cells.{cell_cmp}
use Rattle.sorted_multimap.specs.Multimap.{values_in}
use Rattle.timestamp_node.proofs.Forgetting.{IsForgetting}
use Rattle.timestamp_node.proofs.reads.forget_reads.Given as goal

abbrev pub invariant-loop-event : goal.invariant-loop-event
invariant-loop-event l = record {
  values : (x : Cell) → IsForgetting l.t x l.event-iterator (values_in cell_cmp l.initial.reads x) (values_in cell_cmp l.reads x);
  spare : l.reads.spare ≡ l.initial.reads.spare;
}
