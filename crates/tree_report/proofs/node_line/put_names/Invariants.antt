use Rattle.std.proofs.Common.{◌≡◌, ◌++◌, drop, map}
use Rattle.store_setup.specs.tree.Grown.{kind_numbers}
use Rattle.script_text.specs.Puts.{spaced}
use Rattle.script_text.specs.Texts.{name_of}
use Rattle.tree_report.proofs.node_line.put_names.Given as goal

abbrev pub invariant-loop-kind : goal.invariant-loop-kind
invariant-loop-kind l = l.out.items ++ spaced (map (name_of l.names) (kind_numbers (drop l.kind-index l.types))) ≡ l.initial.out.items ++ spaced (map (name_of l.names) (kind_numbers l.types))
