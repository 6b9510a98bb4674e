use Rattle.audit_law.proofs.Laws.{printed_runs_are_audited}
use Rattle.audit_law.proofs.printed_runs_are_audited.Goals as goal

pub returns : goal.returns
returns c = printed_runs_are_audited
