use Rattle.std.proofs.Common.{sym, ◌∙◌, ap, subst}
use Rattle.engine_core.specs.Decisions.{carried}
use Rattle.engine_core.specs.HeldBy.{IsHeld}
use Rattle.engine_core.specs.Views.{store_in, events_in}
use Rattle.engine_core.proofs.Deciding.{bad_session, nothing_held, aborted_held, running_held, asked_of}
use Rattle.engine_core.proofs.Running.{unfinished_kept}
use Rattle.engine_core.proofs.decide.decide.Goals as goal

pub returns-then-not-is_session-clause-answer : goal.returns-then-not-is_session-clause-answer
returns-then-not-is_session-clause-answer g c =
    ap (carried (store_in c.args.view.now) (events_in c.args.view.now)) c.refused.ensures
    ∙ sym (bad_session (store_in c.args.view.now) (events_in c.args.view.now) c.args.session c.args.request (sym c.is_session.ensures ∙ c.if-not-is_session.true))

pub returns-in-Nothing-clause-answer : goal.returns-in-Nothing-clause-answer
returns-in-Nothing-clause-answer g c =
    let held = subst (IsHeld (events_in c.args.view.now) c.args.session) c.in-Nothing.is c.held.ensures in
    c.decide_new.ensures.answer
    ∙ sym (nothing_held (store_in c.args.view.now) (events_in c.args.view.now) c.args.session c.args.request (sym c.is_session.ensures ∙ c.if-not-is_session.false) held)

pub returns-in-Fallen-clause-answer : goal.returns-in-Fallen-clause-answer
returns-in-Fallen-clause-answer g c =
    let held = subst (IsHeld (events_in c.args.view.now) c.args.session) c.in-Fallen.is c.held.ensures in
    c.tell.ensures.answer
    ∙ sym (aborted_held (store_in c.args.view.now) (events_in c.args.view.now) c.args.session c.args.request c.in-Fallen.t (sym c.is_session.ensures ∙ c.if-not-is_session.false) held.0 held.1)

pub of-requires-clause-unfinished : goal.of-requires-clause-unfinished
of-requires-clause-unfinished g c = (subst (IsHeld (events_in c.args.view.now) c.args.session) c.in-Running.is c.held.ensures).1

pub of-requires-clause-prepared : goal.of-requires-clause-prepared
of-requires-clause-prepared g c = (subst (IsHeld (events_in c.args.view.now) c.args.session) c.in-Running.is c.held.ensures).2

pub returns-in-Running-clause-answer : goal.returns-in-Running-clause-answer
returns-in-Running-clause-answer g c =
    let X = store_in c.args.view.now in
    let H = events_in c.args.view.now in
    let held = subst (IsHeld H c.args.session) c.in-Running.is c.held.ensures in
    asked_of c.of.result.view.now c.args.view.now c.of.result.txn c.in-Running.txn c.decide_of.result c.args.request c.of.ensures.view c.of.ensures.txn c.decide_of.ensures.answer
    ∙ sym (running_held X H c.args.session c.args.request c.in-Running.txn (sym c.is_session.ensures ∙ c.if-not-is_session.false) held.0 (unfinished_kept H c.in-Running.txn.0 held.1))
