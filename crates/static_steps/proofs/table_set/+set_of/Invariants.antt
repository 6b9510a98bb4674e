use Rattle.std.proofs.Common.{length}
use Rattle.static_steps.proofs.table_set.+set_of.Given as goal

abbrev pub decreases-set_of : goal.decreases-set_of
decreases-set_of l = length l.tables.now
