use Rattle.std.proofs.Common.{◌≡◌, ◌++◌}
use Rattle.std.specs.List.{flat_map}
use Rattle.teb_rules.specs.Tree.{below}
use Rattle.tree_writer.specs.Written.{type_text}
use Rattle.tree_writer.proofs.put_types.Given as goal

abbrev pub invariant-loop-k : goal.invariant-loop-k
invariant-loop-k l = l.out.items ≡ l.fn.out.items ++ flat_map (type_text l.names l.profiles) (below l.k)
