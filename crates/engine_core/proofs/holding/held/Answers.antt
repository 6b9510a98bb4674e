use Rattle.std.proofs.Common.{◌≡◌, ◌∙◌, Bool, true, false, cond, List, Some, None, sym, ap}
use Rattle.std.proofs.lemmas.Bool.{or_left}
use Rattle.teb_rules.specs.declared.names.Txn.{Txn}
use Rattle.teb_rules.specs.declared.names.Session.{Session}
use Rattle.teb_rules.specs.declared.history.Event.{Event}
use Rattle.teb_rules.specs.history.Phases.{unfinished, untold}
use Rattle.teb_rules.specs.history.Live.{is_live}
use Rattle.teb_rules.specs.history.Written.{held_txn}
use Rattle.teb_rules.specs.Setup.{Setup}
use Rattle.teb_rules.specs.laws.Lawful.{Lawful}
use Rattle.engine_core.specs.Latest.{latest_txn}
use Rattle.engine_core.specs.Views.{store_in, events_in}
use Rattle.engine_core.proofs.HeldTxns.{held_txn-latest}
use Rattle.engine_core.proofs.HeldPhases.{running_phase, ready_phase, live_aborted}
use Rattle.engine_core.proofs.holding.held.Goals as goal

-- a session holds the transaction that it began last if and only if that is live
held_by : (S : Setup) (H : List Event) (s : Session) (t : Txn) (b : Bool) → Lawful S H → t ≡ latest_txn H s.0 → is_live H t.0 ≡ b → held_txn H s ≡ cond b (Some t) None
held_by S H s t b l e q =
    held_txn-latest S H s l
    ∙ ap (λ (u : Txn). cond (is_live H u.0) (Some u) None) (sym e)
    ∙ ap (λ (z : Bool). cond z (Some t) None) q

pub returns-in-Running : goal.returns-in-Running
returns-in-Running g c =
    let S = (store_in c.args.view.now).setup in
    let H = events_in c.args.view.now in
    let f = running_phase H c.of-txn.result.0 (sym c.phase.ensures ∙ c.in-Running.is) in (
      held_by S H c.args.session c.of-txn.result true c.args.view.now.whole.whole.lawful (c.of-txn.ensures ∙ c.args.view.now.whole.whole.latest c.args.session.0)
          (or_left (unfinished H c.of-txn.result.0) (untold H c.of-txn.result.0) f.0),
      f.0,
      f.1,
    )

pub returns-in-Ready : goal.returns-in-Ready
returns-in-Ready g c =
    let S = (store_in c.args.view.now).setup in
    let H = events_in c.args.view.now in
    let f = ready_phase H c.of-txn.result.0 (sym c.phase.ensures ∙ c.in-Ready.is) in (
      held_by S H c.args.session c.of-txn.result true c.args.view.now.whole.whole.lawful (c.of-txn.ensures ∙ c.args.view.now.whole.whole.latest c.args.session.0)
          (or_left (unfinished H c.of-txn.result.0) (untold H c.of-txn.result.0) f.0),
      f.0,
      f.1,
    )

pub returns-then-is_live : goal.returns-then-is_live
returns-then-is_live g c =
    let H = events_in c.args.view.now in
    let live = sym c.is_live.ensures ∙ c.if-is_live.true in (
      held_by (store_in c.args.view.now).setup H c.args.session c.of-txn.result true c.args.view.now.whole.whole.lawful (c.of-txn.ensures ∙ c.args.view.now.whole.whole.latest c.args.session.0) live,
      live_aborted H c.of-txn.result.0 (λ e. c.in_default.not-Running (c.phase.ensures ∙ e)) (λ e. c.in_default.not-Ready (c.phase.ensures ∙ e)) live,
    )

pub returns-else-is_live : goal.returns-else-is_live
returns-else-is_live g c =
    let S = (store_in c.args.view.now).setup in
    let H = events_in c.args.view.now in
    held_by S H c.args.session c.of-txn.result false c.args.view.now.whole.whole.lawful (c.of-txn.ensures ∙ c.args.view.now.whole.whole.latest c.args.session.0) (sym c.is_live.ensures
    ∙ c.if-is_live.false)
