use Rattle.std.proofs.Common.{ap}
use Rattle.std.proofs.lemmas.Result.{MatchResult-at_err, MatchResult-at_ok}
use Rattle.shell_runner.specs.declared.ended.EndStatus.TheVariants.{Failed}
use Rattle.shell_runner.specs.declared.ended.RunError.TheVariants as errors
use Rattle.shell_runner.proofs.Going.{failed_same}
use Rattle.shell_runner.proofs.running.run.Goals as goal

pub returns-in-Ok-clause-ended : goal.returns-in-Ok-clause-ended
returns-in-Ok-clause-ended g c =
    c.end_sessions.ensures.ended c.args.shell _ _ (MatchResult-at_ok _ _ _ c.in-Ok.is c.run_lines-shell.ensures.read)

pub returns-in-Err-clause-read_fault : goal.returns-in-Err-clause-read_fault
returns-in-Err-clause-read_fault g c = λ p. MatchResult-at_err _ _ c.in-Err.error c.in-Err.is c.run_lines-shell.ensures.read_fault (failed_same c.in-Err.error errors.ReadFault p)

pub returns-in-Err-clause-no_read_fault : goal.returns-in-Err-clause-no_read_fault
returns-in-Err-clause-no_read_fault g c = λ n. MatchResult-at_err _ _ c.in-Err.error c.in-Err.is c.run_lines-shell.ensures.no_other_fault (λ e. n (ap Failed e))

pub returns-in-Err-clause-write_fault : goal.returns-in-Err-clause-write_fault
returns-in-Err-clause-write_fault g c = λ p. MatchResult-at_err _ _ c.in-Err.error c.in-Err.is c.run_lines-shell.ensures.write_fault (failed_same c.in-Err.error errors.WriteFault p)
