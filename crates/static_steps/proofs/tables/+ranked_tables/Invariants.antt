use Rattle.std.proofs.Common.{length}
use Rattle.static_steps.proofs.tables.+ranked_tables.Given as goal

abbrev pub decreases-ranked_tables : goal.decreases-ranked_tables
decreases-ranked_tables l = length l.profiles.now
