use Rattle.commit_laws.proofs.Laws.{records_leave_the_rows}
use Rattle.commit_laws.proofs.records_leave_the_rows.Goals as goal

pub returns : goal.returns
returns c = records_leave_the_rows
