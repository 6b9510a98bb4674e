use Rattle.std.proofs.Common.{inl}
use Rattle.line_reader.specs.Lines.{ahead}
use Rattle.shell_runner.proofs.Going.{ended_before, flowed, read_out}
use Rattle.shell_runner.proofs.running.next_step.Goals as goal

pub returns-in-Err-clause-next : goal.returns-in-Err-clause-next
returns-in-Err-clause-next g c = λ first left before n any_bad e r.
    ended_before g.T.ShellStore.stored g.T.ShellStore.safe first left before n any_bad c.args.shell _ _ c.in-Err.error r c.in-Err.ensures.unread c.in-Err.ensures.too_long

pub returns-clause-next : goal.returns-clause-next
returns-clause-next g c = λ first left before n any_bad e r.
    let mid = ahead c.args.reader.now (g.S.Source.left c.args.input.now) in
    let rest = ahead c.next_asked.new.reader (g.S.Source.left c.next_asked.new.input) in
    flowed g.T.ShellStore.stored g.T.ShellStore.safe first left before c.args.number n any_bad c.args.shell c.take_line-shell.result.0 c.names.result.now c.in-Ok-Some.asked.asks mid rest
    (g.K.Sink.written c.args.out.now) (g.K.Sink.written c.take_line-shell.new.out)
    c.take_line-shell.result.1 c.flow_of.result e r c.names.ensures (rw c.in-Ok-Some.field-0-is at c.in-Ok-Some.ensures.next) c.take_line-shell.ensures.step c.take_line-shell.ensures.safe
    c.flow_of.ensures

pub returns-in-Ok-None-clause-next : goal.returns-in-Ok-None-clause-next
returns-in-Ok-None-clause-next g c = λ first left before n any_bad e r.
    read_out g.T.ShellStore.stored g.T.ShellStore.safe first left before n any_bad c.args.shell _ (g.K.Sink.written c.args.out.now) r (inl (rw c.in-Ok-None.field-0-is at c.in-Ok-None.ensures.next))
