use Rattle.std.proofs.Common.{◌∙◌, sym, ap}
use Rattle.snapshot_node.specs.Pivots.{break_by}
use Rattle.snapshot_node.proofs.snapshot.SnapshotControl.validate.Goals as goal

pub returns-in-Some : goal.returns-in-Some
returns-in-Some c = ap break_by (sym c.in-Some.is) ∙ c.least_pivot.ensures

pub returns-in-None : goal.returns-in-None
returns-in-None c = ap break_by (sym c.in-None.is) ∙ c.least_pivot.ensures
