use Rattle.std.proofs.Common.{◌≡◌, arith, inr, rules, subst}
use Rattle.shell_runner.specs.declared.running.Flow.{Flow}
use Rattle.shell_runner.specs.declared.running.Flow.TheVariants as flow
use Rattle.shell_runner.specs.Runs.{GoesOn}
use Rattle.line_reader.specs.Lines.{ahead}
use Rattle.std.proofs.lemmas.Result.{MatchResult-at_err, MatchResult-at_ok}
use Rattle.shell_runner.proofs.Going.{read_out}
use Rattle.shell_runner.proofs.running.run_lines.Goals as goal

pub returns-in-Ok-End-clause-read : goal.returns-in-Ok-End-clause-read
returns-in-Ok-End-clause-read g c =
    let r = c.loop-number.invariant.run in
    let at_end : c.in-Ok-End.field-0 ≡ flow.End = search (rules, c.in-Ok-End.field-0-is) in
    subst (λ (f : Flow). GoesOn g.T.ShellStore.stored g.T.ShellStore.safe c.args.shell (g.S.Source.left c.args.input.now) (g.K.Sink.written c.args.out.now) c.loop-number.number c.loop-number.any_bad f
    c.next_step-next.result.0 (ahead c.next_step-next.new.reader (g.S.Source.left c.next_step-next.new.input)) (g.K.Sink.written c.next_step-next.new.out)) at_end
    (MatchResult-at_ok _ _ _ c.in-Ok-End.is (c.next_step-next.ensures.next c.args.shell (g.S.Source.left c.args.input.now) (g.K.Sink.written c.args.out.now) r.0 c.loop-number.any_bad r.1 r.2))

pub returns-in-Err-clause-ended : goal.returns-in-Err-clause-ended
returns-in-Err-clause-ended g c =
    let r = c.loop-number.invariant.run in
    MatchResult-at_err _ _ _ c.in-Err.is (c.next_step-next.ensures.next c.args.shell (g.S.Source.left c.args.input.now) (g.K.Sink.written c.args.out.now) r.0 c.loop-number.any_bad r.1 r.2)

pub returns-clause-read : goal.returns-clause-read
returns-clause-read g c =
    let r = c.loop-number.invariant.run in
    read_out g.T.ShellStore.stored g.T.ShellStore.safe c.args.shell (g.S.Source.left c.args.input.now) (g.K.Sink.written c.args.out.now) r.0 c.loop-number.any_bad c.loop-number.last
    (ahead c.loop-number.reader (g.S.Source.left c.loop-number.input)) (g.K.Sink.written c.loop-number.out) r.2 (inr (omega (arith, r.1, c.loop-number-test.false)))
