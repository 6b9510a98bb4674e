use Rattle.engine_store.proofs.Resuming as resuming
use Rattle.engine_store.proofs.laws.empty_disks_tell.Goals as goal

pub returns : goal.returns
returns c = resuming.empty_disks_tell
