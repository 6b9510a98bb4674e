use Rattle.std.proofs.Common.{inl, inr, ◌∙◌, ◌≤◌, ◌+◌, ◌++◌, ◌∷◌, [], List, sym, ap, subst, arith}
use Rattle.std.proofs.lemmas.Bool.{both_ways}
use Rattle.teb_rules.specs.declared.names.Reply.{Reply}
use Rattle.teb_rules.specs.declared.history.Event.{Event}
use Rattle.commit_journal.specs.Kept.{Kept}
use Rattle.crash_runner.specs.Underway.{IsUnderway, effects, weight}
use Rattle.crash_runner.proofs.Effects.{adds_few}
use Rattle.crash_runner.proofs.Along.{asked_one, light}
use Rattle.crash_runner.proofs.Errors.{as_error, fault_or_not, of_run_error}
use Rattle.crash_runner.proofs.Steps.{goes_on, stops_here, never_full}
use Rattle.crash_runner.proofs.asking.ask.Goals as goal

pub returns-in_ok-push-in-Ok-clause-underway : goal.returns-in_ok-push-in-Ok-clause-underway
returns-in_ok-push-in-Ok-clause-underway g c =
    let d = g.D.Disk in
    let old = c.args.durable.now in
    let new = c.ask.new.self in
    subst (IsUnderway (d.tally old.disk).promise d.tally d.safe new) (sym c.in_ok-push-in-Ok.ensures.items)
    (goes_on d.tally d.safe d.may_leave g.met.D.Disk.safe_is_left (d.tally old.disk).promise old new c.args.log.now.items c.args.session c.args.request c.requires.underway c.requires.few
    c.in-Ok.ensures.store c.in-Ok.reply c.in-Ok.ensures.reply c.in-Ok.ensures.events c.in-Ok.ensures.goes_on
    (c.in-Ok.ensures.acknowledged.all c.in-Ok.ensures.goes_on) (c.in-Ok.ensures.acknowledged.end c.in-Ok.ensures.goes_on)
    c.in-Ok.ensures.images c.in-Ok.ensures.calls.untouched c.in-Ok.ensures.calls.counted c.in-Ok.ensures.calls.written c.in-Ok.ensures.calls.up_to c.in-Ok.ensures.calls.fails)

pub returns-in_ok-push-in-Ok-clause-asked : goal.returns-in_ok-push-in-Ok-clause-asked
returns-in_ok-push-in-Ok-clause-asked g c =
    let old = c.args.durable.now in
    let log = c.args.log.now.items in
    asked_one old.store c.args.session c.args.request log c.push.new.self.items old.events c.ask.new.self.events
    (c.in_ok-push-in-Ok.ensures.items ∙ ap (λ (y : Reply). log ++ record { session = c.args.session; reply = y } ∷ []) c.in-Ok.ensures.reply) c.in-Ok.ensures.events

pub returns-in_ok-push-in-Ok-clause-few : goal.returns-in_ok-push-in-Ok-clause-few
returns-in_ok-push-in-Ok-clause-few g c =
    let old = c.args.durable.now in
    subst (λ (H : List Event). effects H ≤ weight c.args.request + effects old.events) (sym c.in-Ok.ensures.events) (adds_few old.store old.events c.args.session c.args.request)

pub returns-in_ok-push-in-Ok-clause-one : goal.returns-in_ok-push-in-Ok-clause-one
returns-in_ok-push-in-Ok-clause-one g c =
    let added : effects c.ask.new.self.events ≤ weight c.args.request + effects c.args.durable.now.events = returns-in_ok-push-in-Ok-clause-few g c in
    omega (arith, added, light c.args.request)

pub error_of-requires-clause-running : goal.error_of-requires-clause-running
error_of-requires-clause-running g c is = absurd (both_ways _ c.requires.underway.runs (c.in-Err.ensures.refuses.stopped (as_error c.in-Err.error _ is)))

pub error_of-requires-clause-room : goal.error_of-requires-clause-room
error_of-requires-clause-room g c is =
    let d = g.D.Disk in
    let old = c.args.durable.now in
    never_full d.tally d.safe d.may_leave g.met.D.Disk.safe_is_left (d.tally old.disk).promise old c.args.log.now.items c.args.session c.args.request c.requires.underway c.requires.few
    (d.capacity old.disk) c.requires.wide (c.in-Err.ensures.refuses.full (as_error c.in-Err.error _ is))

pub returns-in-Err-clause-stopped : goal.returns-in-Err-clause-stopped
returns-in-Err-clause-stopped g c rest is =
    let d = g.D.Disk in
    let old = c.args.durable.now in
    let fault = as_error c.in-Err.error _ (c.error_of.ensures.0 (of_run_error c.error_of.result _ is)) in
    stops_here d.tally d.safe d.may_leave g.met.D.Disk.safe_is_left (d.tally old.disk).promise old c.ask.new.self c.args.log.now.items c.args.session c.args.request c.requires.underway c.requires.few
    c.in-Err.ensures.store rest
    (c.in-Err.ensures.fault fault).commits (c.in-Err.ensures.fault fault).not_added c.in-Err.ensures.calls.up_to (λ t asked sure. c.in-Err.ensures.calls.sure t asked sure fault)

pub returns-in-Err-clause-error : goal.returns-in-Err-clause-error
returns-in-Err-clause-error g c =
    let e = c.in-Err.ensures in (
      λ is. (e.fault (as_error c.in-Err.error _ (c.error_of.ensures.0 is))).stopped,
      λ stopped. elim (fault_or_not c.in-Err.error) [
        | inl fault ↦ c.error_of.ensures.1 fault
        | inr other ↦ absurd (both_ways _ c.requires.underway.runs (sym (ap (λ (k : Kept _). k.stopped) (e.not_asked other)) ∙ stopped))
      ],
    )
