use Rattle.std.proofs.Common.{length}
use Rattle.store_setup.proofs.profile.faults.+has_table.Given as goal

abbrev pub decreases-has_table : goal.decreases-has_table
decreases-has_table l = length l.tables.now
