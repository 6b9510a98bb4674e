use Rattle.teb_rules.specs.declared.names.Request.TheVariants as requests
use Rattle.shell_lines.specs.declared.line.ShellLine.TheVariants as lines
use Rattle.shell_runner.specs.Runs.{state_of}
use Rattle.shell_runner.proofs.Ending.{reply_released, same_result}
use Rattle.shell_runner.proofs.Going.{ends_answered, once, writes}
use Rattle.shell_runner.proofs.ends.end_session.Goals as goal

pub returns-clause-step : goal.returns-clause-step
returns-clause-step g c =
    let s = state_of g.T.ShellStore.stored c.args.shell in
    let t = state_of g.T.ShellStore.stored c.ask_store-shell.result.0 in
    writes 1 s t (lines.Ask c.args.session requests.End) c.deref.result.now c.ask_store-shell.result.1 c.write_step.result (g.K.Sink.written c.args.out.now) (g.K.Sink.written c.write_step.new.out)
    (ends_answered 1 s t c.args.session c.ask_store-shell.new.out.items c.deref.result.now c.ask_store-shell.result.1 c.deref.ensures.value c.ask_store-shell.ensures.replied)
    c.write_step.ensures.written c.write_step.ensures.not_written

pub returns-clause-released : goal.returns-clause-released
returns-clause-released g c = λ reached holds.
    let s = state_of g.T.ShellStore.stored c.args.shell in
    let t = state_of g.T.ShellStore.stored c.ask_store-shell.result.0 in
    same_result _ _ _ _ c.write_step.ensures.written (reply_released s t c.args.session c.ask_store-shell.new.out.items c.ask_store-shell.result.1 c.ask_store-shell.ensures.replied reached holds)

pub returns-clause-safe : goal.returns-clause-safe
returns-clause-safe g c = once g.T.ShellStore.safe c.args.shell c.ask_store-shell.result.0 c.ask_store-shell.ensures.safe
