use Rattle.std.proofs.Common.{◌∙◌}
use Rattle.epoch_journal.proofs.Refusing.{counted}
use Rattle.epoch_journal.proofs.recovering.settled_len.Goals as goal

pub returns-clause-granted : goal.returns-clause-granted
returns-clause-granted g c = (counted _ _ _ _ _ _ _ c.in_ok-len.ensures.count).granted ∙ (counted _ _ _ _ _ _ _ c.in_ok-sync.ensures.count).granted
