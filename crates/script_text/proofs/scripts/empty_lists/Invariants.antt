use Rattle.std.proofs.Common.{◌≡◌, [], replicate, vec_len}
use Rattle.script_text.specs.Lists.{lists_in}
use Rattle.script_text.proofs.scripts.empty_lists.Given as goal

abbrev pub invariant-loop-count : goal.invariant-loop-count
invariant-loop-count l = record {
  lists : lists_in l.lists.items ≡ replicate l.count-index [];
  len : vec_len l.lists ≡ l.count-index;
}
