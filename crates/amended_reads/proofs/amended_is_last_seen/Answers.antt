use Rattle.amended_reads.proofs.Seeing.{amended_is_last_seen}
use Rattle.amended_reads.proofs.amended_is_last_seen.Goals as goal

pub returns : goal.returns
returns c = amended_is_last_seen
