use Rattle.std.proofs.Common.{inr, refl, sym}
use Rattle.shell_runner.proofs.Ending.{ends_or_stops, none_held, on_result, still}
use Rattle.shell_runner.proofs.Going.{held_some}
use Rattle.shell_runner.proofs.ends.end_if_held.Goals as goal

pub returns-in-Some-clause-ended : goal.returns-in-Some-clause-ended
returns-in-Some-clause-ended g c =
    ends_or_stops g.T.ShellStore.stored g.T.ShellStore.safe c.args.session c.args.shell c.end_session-shell.result.0 (g.K.Sink.written c.args.out.now) (g.K.Sink.written c.end_session-shell.new.out)
    c.end_session-shell.result.1 c.goes_on.result
    (held_some _ _ c.args.session c.in-Some.field-0 c.history.ensures.events c.in-Some.ensures) c.end_session-shell.ensures.step c.end_session-shell.ensures.safe c.goes_on.ensures

pub returns-in-Some-clause-released : goal.returns-in-Some-clause-released
returns-in-Some-clause-released g c =
    on_result _ c.end_session-shell.result.1 c.goes_on.result c.goes_on.ensures
    (c.end_session-shell.ensures.released c.history.ensures.reached (held_some _ _ c.args.session c.in-Some.field-0 c.history.ensures.events c.in-Some.ensures))

pub returns-in-None-clause-ended : goal.returns-in-None-clause-ended
returns-in-None-clause-ended g c = inr (record { holds = none_held _ _ c.args.session c.history.ensures.events (sym c.in-None.ensures); same = refl; unwritten = refl })

pub returns-in-None-clause-released : goal.returns-in-None-clause-released
returns-in-None-clause-released g c = still _ c.args.session.0 (none_held _ _ c.args.session c.history.ensures.events (sym c.in-None.ensures))
