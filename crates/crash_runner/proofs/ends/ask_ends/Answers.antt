use Rattle.std.proofs.Common.{◌≡◌, ◌∙◌, ◌+◌, ◌≤◌, ◌++◌, refl, sym, subst, arith, map, drop}
use Rattle.std.specs.Prelude.{◌↔◌, true}
use Rattle.std.proofs.lemmas.Result.{err_from_is_err_and}
use Rattle.crash_disk.specs.Calls.{Promise}
use Rattle.script_runner.specs.replay.Holders.{end_of}
use Rattle.crash_runner.specs.declared.error.RunError.{RunError}
use Rattle.crash_runner.specs.declared.error.RunError.TheVariants as run_error
use Rattle.crash_runner.specs.Underway.{IsUnderway, effects}
use Rattle.crash_runner.proofs.Along.{asked_none, one_more, stopped_at}
use Rattle.crash_runner.proofs.Errors.{as_run_error, passed_on, of_run_error}
use Rattle.crash_runner.proofs.ends.ask_ends.Goals as goal

pub loop-session-init : goal.loop-session-init
loop-session-init g c = record {
  store = record { store = refl; names = refl };
  capacity = refl;
  underway = c.requires.underway;
  asked = asked_none c.args.durable.now.store c.args.log.now.items c.args.durable.now.events;
  few = c.requires.few;
}

pub returns-in_err-ask-clause-stopped : goal.returns-in_err-ask-clause-stopped
returns-in_err-ask-clause-stopped g c rest is =
    let d = g.D.Disk in
    let l = c.loop-session in
    let i = l.invariant in
    let old = c.args.durable.now in
    let p = err_from_is_err_and c.from_residual.result c.from_residual.ensures.1 in
    let stopped = of_run_error p.0 _ (sym p.1 ∙ is) in
    stopped_at end_of c.args.holders.now l.session-index _ c.loop-session-test.true _ refl old.store l.durable.store i.store.store c.args.log.now.items l.log.items old.events l.durable.events i.asked
    (d.tally old.disk).promise (d.tally l.durable.disk).promise rest c.ask.new.log.items (d.tally c.ask.new.durable.disk) (d.safe c.ask.new.durable.disk) i.underway.promised
    (c.in_err-ask.ensures.stopped (map end_of (drop (l.session-index + 1) c.args.holders.now) ++ rest) (as_run_error c.in_err-ask.field-0.0 _ (sym p.2 ∙ stopped)))

pub loop-session-preserved : goal.loop-session-preserved
loop-session-preserved g c =
    let d = g.D.Disk in
    let l = c.loop-session in
    let i = l.invariant in
    let old = c.args.durable.now in
    let none : effects c.ask.new.durable.events ≤ 0 + effects l.durable.events = c.in_ok-ask.ensures.few in
    record {
      store = record { store = c.in_ok-ask.ensures.store.store ∙ i.store.store; names = c.in_ok-ask.ensures.store.names ∙ i.store.names };
      capacity = c.ask.ensures.capacity ∙ i.capacity;
      underway = subst (λ (p : Promise). IsUnderway p d.tally d.safe c.ask.new.durable c.ask.new.log.items) i.underway.promised c.in_ok-ask.ensures.underway;
      asked = one_more end_of c.args.holders.now l.session-index _ c.loop-session-test.true _ refl old.store l.durable.store i.store.store c.args.log.now.items l.log.items old.events l.durable.events
          i.asked
          c.ask.new.log.items c.ask.new.durable.events c.in_ok-ask.ensures.asked;
      few = omega (arith, none, i.few);
    }

pub returns-in_err-ask-clause-error : goal.returns-in_err-ask-clause-error
returns-in_err-ask-clause-error g c =
    let p = err_from_is_err_and c.from_residual.result c.from_residual.ensures.1 in
    passed_on c.from_residual.result p.0 c.in_err-ask.field-0.0 (λ (h : RunError). (h ≡ run_error.DiskFault) ↔ (c.ask.new.durable.stopped ≡ true)) p.1 p.2 c.in_err-ask.ensures.error
