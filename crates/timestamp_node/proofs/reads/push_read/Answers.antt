use Rattle.std.proofs.Common.{◌∙◌}
use Rattle.teb_rules.specs.names.Cells.{cell_cmp}
use Rattle.sorted_multimap.specs.Multimap.{values_in}
use Rattle.sorted_multimap.proofs.CellValues.{pushed_cell}
use Rattle.timestamp_node.proofs.reads.push_read.Goals as goal

pub returns-clause-values : goal.returns-clause-values
returns-clause-values c x = c.push.ensures.values x ∙ pushed_cell (values_in cell_cmp c.args.reads.now) c.args.cell x (c.args.t, c.args.from)
