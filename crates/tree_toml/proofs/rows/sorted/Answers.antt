use Rattle.std.proofs.Common.{◌≡◌, ◌++◌, List, ℤ, sym, ◌∙◌, ap, append-nil}
use Rattle.teb_rules.specs.declared.names.Cell.{Cell}
use Rattle.teb_rules.proofs.lemmas.names.Ascending.{ascending_from_sorted}
use Rattle.tree_toml.proofs.rows.sorted.Goals as goal

pub from_sorted-requires : goal.from_sorted-requires
from_sorted-requires c =
    let same : c.loop-cell.list.items ≡ c.args.rows.now.entries =
    sym (append-nil c.loop-cell.list.items) ∙ ap (λ (l : List (Cell × ℤ)). c.loop-cell.list.items ++ l) (sym c.in-None.ensures.steps.0) ∙ c.loop-cell.invariant in
    rw same (ascending_from_sorted c.args.rows.now.entries c.len.ensures.ordered)
