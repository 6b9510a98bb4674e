use Rattle.amended_reads.proofs.Seeing.{amended_is_read}
use Rattle.amended_reads.proofs.amended_is_read.Goals as goal

pub returns : goal.returns
returns c = amended_is_read
