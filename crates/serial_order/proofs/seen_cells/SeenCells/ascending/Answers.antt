use Rattle.std.proofs.Common.{◌++◌, List, ap, subst, ◌∙◌, rules}
use Rattle.std.proofs.lemmas.List.{nil_from_length}
use Rattle.std.proofs.lemmas.List.Filters.{dedup_is}
use Rattle.std.specs.List.Sorted.{IsPermutation}
use Rattle.teb_rules.specs.declared.names.Cell.{Cell}
use Rattle.serial_order.proofs.Seen.{only_marked, all_sorted}
use Rattle.serial_order.proofs.seen_cells.SeenCells.ascending.Goals as goal

pub returns-then-is_empty : goal.returns-then-is_empty
returns-then-is_empty c = only_marked c.args.self c.in_ok-cells.cells.items c.requires (nil_from_length c.args.self.others.items (search rules)) c.in_ok-cells.ensures

pub returns : goal.returns
returns c = rw (dedup_is _ _ _ c.dedup.ensures.filtered) (all_sorted c.args.self c.in_ok-cells.cells.items c.sort_unstable.new.self.items c.sort.new.self.items c.requires c.in_ok-cells.ensures
    c.sort_unstable.ensures.permutation
    (subst (λ (xs : List Cell). IsPermutation xs c.sort.new.self.items) (c.in_ok-extend_from_slice.ensures.items ∙ ap (λ (xs : List Cell). c.in_ok-cells.cells.items ++ xs) c.deref.ensures.value)
    c.in_ok-sort.ensures.permutation)
    c.in_ok-sort.ensures.sorted)
