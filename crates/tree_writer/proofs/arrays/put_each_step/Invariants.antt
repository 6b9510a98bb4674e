use Rattle.std.proofs.Common.{◌≡◌, ◌++◌, true, drop, map}
use Rattle.tree_writer.specs.Written.{items_text, names_array}
use Rattle.tree_writer.proofs.arrays.put_each_step.Given as goal

abbrev pub invariant-loop-i : goal.invariant-loop-i
invariant-loop-i l = l.out.items ++ items_text l.is_first (map (names_array l.tables) (drop l.i l.profile)) ≡ l.fn.out.items ++ items_text true (map (names_array l.tables) l.profile)
