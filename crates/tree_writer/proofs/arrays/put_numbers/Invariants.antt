use Rattle.std.proofs.Common.{◌≡◌, ◌++◌, true, drop, map}
use Rattle.store_setup.specs.profile.Steps.{numbers_of}
use Rattle.script_text.specs.Texts.{name_of}
use Rattle.tree_writer.specs.Written.{items_text, quoted}
use Rattle.tree_writer.proofs.arrays.put_numbers.Given as goal

abbrev pub invariant-loop-table : goal.invariant-loop-table
invariant-loop-table l =
    l.out.items ++ items_text l.is_first (map (λ n. quoted (name_of l.names n)) (numbers_of (drop l.table-index l.tables))) ≡ l.fn.out.items
    ++ items_text true (map (λ n. quoted (name_of l.names n)) (numbers_of l.tables))
