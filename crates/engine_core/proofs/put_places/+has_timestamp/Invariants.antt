use Rattle.std.proofs.Common.{length}
use Rattle.engine_core.proofs.put_places.+has_timestamp.Given as goal

abbrev pub decreases-has_timestamp : goal.decreases-has_timestamp
decreases-has_timestamp l = length l.nodes.now
