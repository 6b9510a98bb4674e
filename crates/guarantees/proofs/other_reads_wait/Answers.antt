use Rattle.guarantees.proofs.Shown.{locks_block, locks_wait, pipelines_block, pipelines_wait}
use Rattle.guarantees.proofs.other_reads_wait.Goals as goal

pub returns : goal.returns
returns c = record { locks = locks_block; pipelines = pipelines_block; locks_wait = locks_wait; pipelines_wait = pipelines_wait }
