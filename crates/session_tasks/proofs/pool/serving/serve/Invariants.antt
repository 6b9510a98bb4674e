use Rattle.std.proofs.Common.{◌-◌, vec_len}
use Rattle.session_tasks.specs.pool.Workers.{IsAtWork}
use Rattle.session_tasks.proofs.pool.serving.serve.Given as goal
use Rattle.teb_rules.specs.declared.names.TheConstants.{SESSIONS}

abbrev pub invariant-loop-task : goal.invariant-loop-task
invariant-loop-task g l = IsAtWork l.line l.run.hall.now l.run.scripts.now l.worker

abbrev pub decreases-loop-task : goal.decreases-loop-task
decreases-loop-task g l = SESSIONS - vec_len l.worker.hand
