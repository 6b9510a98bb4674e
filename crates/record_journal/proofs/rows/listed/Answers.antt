use Rattle.std.proofs.Common.{◌≡◌, ◌∙◌, ap, map, rules, List, ℤ}
use Rattle.std.specs.List.Sorted.{IsStrictlySortedBy}
use Rattle.teb_rules.specs.declared.names.Cell.{Cell}
use Rattle.teb_rules.specs.names.Rows.{row_of}
use Rattle.record_journal.proofs.Tables.{cell_cmp, row_of_entries, entries_ascend}
use Rattle.record_journal.proofs.rows.listed.Goals as goal

pub returns-clause-rows : goal.returns-clause-rows
returns-clause-rows c x =
    let whole : c.loop-cell.list.items ≡ c.args.rows.now.entries = search rules in
    ap (λ (l : List (Cell × ℤ)). row_of l x) whole ∙ row_of_entries c.args.rows.now.entries x

pub returns-clause-ascending : goal.returns-clause-ascending
returns-clause-ascending c =
    let sorted : IsStrictlySortedBy cell_cmp (map (λ (row : Cell × ℤ). row.0) c.loop-cell.list.items) = search rules in
    entries_ascend c.loop-cell.list.items sorted
