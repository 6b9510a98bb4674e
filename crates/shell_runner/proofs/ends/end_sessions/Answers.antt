use Rattle.std.proofs.Common.{ℕ, ◌≡◌, arith, subst, suc}
use Rattle.std.proofs.lemmas.Result.{MatchResult-at_err, MatchResult-at_ok}
use Rattle.teb_rules.specs.declared.names.TheConstants.{SESSIONS}
use Rattle.shell_runner.proofs.Ending.{EndsSoFar, all_ended, ending, no_end_yet, passing}
use Rattle.shell_runner.proofs.ends.end_sessions.Goals as goal

pub returns-in-Err-clause-ended : goal.returns-in-Err-clause-ended
returns-in-Err-clause-ended g c = λ first left start read.
    let e = c.loop-number.invariant.ended in
    ending g.T.ShellStore.stored g.T.ShellStore.safe c.args.shell (g.K.Sink.written c.args.out.now) first left start c.args.any_bad read c.loop-number.number e.0 c.loop-number.last
    c.end_if_held-next.result.0 (g.K.Sink.written c.loop-number.out)
    (g.K.Sink.written c.end_if_held-next.new.out) c.in-Err.error e.1 (omega (arith, e.1, c.loop-number-test.true)) e.2
    (MatchResult-at_err _ _ c.in-Err.error c.in-Err.is c.end_if_held-next.ensures.ended)

pub returns-clause-ended : goal.returns-clause-ended
returns-clause-ended g c = λ first left start read.
    let e = c.loop-number.invariant.ended in
    let all : e.0 ≡ SESSIONS = omega (arith, e.1, c.loop-number-test.false) in
    all_ended g.T.ShellStore.stored g.T.ShellStore.safe c.args.shell (g.K.Sink.written c.args.out.now) first left start c.args.any_bad read c.loop-number.last (g.K.Sink.written c.loop-number.out)
    (subst (λ (k : ℕ). EndsSoFar g.T.ShellStore.stored g.T.ShellStore.safe c.args.shell k c.loop-number.last (g.K.Sink.written c.args.out.now) (g.K.Sink.written c.loop-number.out)) all e.2)

pub loop-number-preserved : goal.loop-number-preserved
loop-number-preserved g c = record {
  ready = MatchResult-at_ok _ _ _ c.in-Ok.is c.end_if_held-next.ensures.ready;
  ended =
      let e = c.loop-number.invariant.ended in (
        suc e.0,
        omega (arith, e.1),
        passing g.T.ShellStore.stored g.T.ShellStore.safe c.args.shell (g.K.Sink.written c.args.out.now) c.loop-number.number e.0 c.loop-number.last c.end_if_held-next.result.0
            (g.K.Sink.written c.loop-number.out)
            (g.K.Sink.written c.end_if_held-next.new.out) e.1 e.2 (MatchResult-at_ok _ _ _ c.in-Ok.is c.end_if_held-next.ensures.ended)
            (MatchResult-at_ok _ _ _ c.in-Ok.is c.end_if_held-next.ensures.released),
      );
  writes = omega (arith, c.loop-number.invariant.writes, c.end_if_held-next.ensures.writes);
}

pub loop-number-init : goal.loop-number-init
loop-number-init g c = record {
  ready = c.requires;
  ended = (0, omega arith, no_end_yet g.T.ShellStore.stored g.T.ShellStore.safe c.args.shell (g.K.Sink.written c.args.out.now));
  writes = omega arith;
}
