use Rattle.audit_check.proofs.TableSteps.{none_held}
use Rattle.audit_check.proofs.table.starting_table.Goals as goal

pub loop-line-init : goal.loop-line-init
loop-line-init c = none_held _ c.new.ensures.empty
