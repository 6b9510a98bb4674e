use Rattle.std.proofs.Common.{◌≡◌, ◌++◌, true, drop, map}
use Rattle.store_setup.specs.tree.Grown.{kind_numbers}
use Rattle.script_text.specs.Texts.{name_of}
use Rattle.tree_writer.specs.Written.{items_text, quoted}
use Rattle.tree_writer.proofs.arrays.put_kinds.Given as goal

abbrev pub invariant-loop-kind : goal.invariant-loop-kind
invariant-loop-kind l =
    l.out.items ++ items_text l.is_first (map (λ n. quoted (name_of l.types n)) (kind_numbers (drop l.kind-index l.kinds))) ≡ l.fn.out.items
    ++ items_text true (map (λ n. quoted (name_of l.types n)) (kind_numbers l.kinds))
