use Rattle.std.proofs.Common.{◌≡◌, ◌++◌, true, drop, map}
use Rattle.tree_writer.specs.Written.{items_text, quoted}
use Rattle.tree_writer.proofs.arrays.put_all.Given as goal

abbrev pub invariant-loop-n : goal.invariant-loop-n
invariant-loop-n l = l.out.items ++ items_text l.is_first (map quoted (drop l.n l.names)) ≡ l.fn.out.items ++ items_text true (map quoted l.names)
