use Rattle.std.proofs.Common.{◌≤◌, drop, ◌∙◌, refl, sym, ap, length, map, arith}
use Rattle.std.proofs.lemmas.List.{drop_all}
use Rattle.script_runner.specs.replay.Holders.{end_of}
use Rattle.script_runner.proofs.lemmas.replay.Logged.{after, all_told, history_is, one_after, one_told}
use Rattle.script_runner.proofs.replay.ends.ask_ends.Goals as goal

pub loop-session-init : goal.loop-session-init
loop-session-init g c = record { store = refl; names = refl; log = λ told t. record { answers = told; told = t; joined = refl }; events = refl }

pub loop-session-preserved : goal.loop-session-preserved
loop-session-preserved g c =
    let l = c.loop-session in
    let i = l.invariant in
    let e = c.in_ok-ask.ensures in
    record {
      store = e.store ∙ i.store;
      names = e.names ∙ i.names;
      log = λ told t. one_told end_of c.args.holders.now l.session-index _ c.loop-session-test.true _ _ refl l.engine.store c.ask.new.engine.store l.engine.events c.ask.new.engine.events e.store
          e.events
          (g.L.Log.tells l.log) (g.L.Log.tells c.ask.new.log) l.engine.names c.args.engine.now.names _ i.names e.log (i.log told t);
      events = one_after end_of c.args.holders.now l.session-index _ c.loop-session-test.true _ _ refl l.engine.store c.ask.new.engine.store l.engine.events c.ask.new.engine.events e.store e.events
          ∙ i.events;
    }

pub returns-clause-log : goal.returns-clause-log
returns-clause-log g c = λ told t.
    let holders = c.args.holders.now in
    let end : length holders ≤ c.loop-session.session-index = omega (arith, c.loop-session-test.false) in
    all_told (g.L.Log.tells c.loop-session.log c.args.engine.now.names) c.loop-session.engine.store c.loop-session.engine.events (map end_of (drop c.loop-session.session-index holders)) _
    (ap (map end_of) (drop_all c.loop-session.session-index holders end))
    (c.loop-session.invariant.log told t)

pub returns-clause-events : goal.returns-clause-events
returns-clause-events g c =
    let holders = c.args.holders.now in
    let end : length holders ≤ c.loop-session.session-index = omega (arith, c.loop-session-test.false) in
    sym (ap (λ ss. after c.loop-session.engine.store c.loop-session.engine.events (map end_of ss)) (drop_all c.loop-session.session-index holders end))
    ∙ c.loop-session.invariant.events ∙ sym (history_is c.args.engine.now.store c.args.engine.now.events (map end_of holders))
