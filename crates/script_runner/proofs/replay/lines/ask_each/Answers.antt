use Rattle.std.proofs.Common.{◌≤◌, drop, ◌∙◌, refl, sym, ap, length, arith}
use Rattle.std.proofs.lemmas.List.{drop_all}
use Rattle.script_runner.specs.replay.Logs.{request_of, requests_of}
use Rattle.script_runner.proofs.lemmas.replay.Logged.{after, all_told, history_is, one_after, one_told}
use Rattle.script_runner.proofs.replay.lines.ask_each.Goals as goal

pub loop-line-init : goal.loop-line-init
loop-line-init g c = record {
  store = refl;
  names = refl;
  log = λ told t. record { answers = told; told = t; joined = refl };
  events = refl;
}

pub loop-line-preserved : goal.loop-line-preserved
loop-line-preserved g c =
    let l = c.loop-line in
    let i = l.invariant in
    let e = c.in_ok-ask.ensures in
    record {
      store = e.store ∙ i.store;
      names = e.names ∙ i.names;
      log = λ told t. one_told request_of c.args.lines.now l.line-index _ c.loop-line-test.true _ _ refl l.engine.store c.ask.new.engine.store l.engine.events c.ask.new.engine.events e.store e.events
          (g.L.Log.tells l.log) (g.L.Log.tells c.ask.new.log) l.engine.names c.args.engine.now.names _ i.names e.log (i.log told t);
      events = one_after request_of c.args.lines.now l.line-index _ c.loop-line-test.true _ _ refl l.engine.store c.ask.new.engine.store l.engine.events c.ask.new.engine.events e.store e.events
          ∙ i.events;
    }

pub returns-clause-log : goal.returns-clause-log
returns-clause-log g c = λ told t.
    let lines = c.args.lines.now in
    let end : length lines ≤ c.loop-line.line-index = omega (arith, c.loop-line-test.false) in
    all_told (g.L.Log.tells c.loop-line.log c.args.engine.now.names) c.loop-line.engine.store c.loop-line.engine.events (requests_of (drop c.loop-line.line-index lines)) _
    (ap requests_of (drop_all c.loop-line.line-index lines end))
    (c.loop-line.invariant.log told t)

pub returns-clause-events : goal.returns-clause-events
returns-clause-events g c =
    let lines = c.args.lines.now in
    let end : length lines ≤ c.loop-line.line-index = omega (arith, c.loop-line-test.false) in
    sym (ap (λ ls. after c.loop-line.engine.store c.loop-line.engine.events (requests_of ls)) (drop_all c.loop-line.line-index lines end))
    ∙ c.loop-line.invariant.events ∙ sym (history_is c.args.engine.now.store c.args.engine.now.events (requests_of lines))
