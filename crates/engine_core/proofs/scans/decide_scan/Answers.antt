use Rattle.std.proofs.Common.{sym, ◌∙◌, ap}
use Rattle.teb_rules.specs.Answer.{answer_of}
use Rattle.engine_core.specs.Decisions.{carried}
use Rattle.engine_core.specs.Views.{store_in, events_in}
use Rattle.engine_core.proofs.Deciding.{stops, goes, is_refused, is_not_refused, out_of_range, in_range}
use Rattle.engine_core.proofs.scans.decide_scan.Goals as goal

pub returns-in-Some-clause-answer : goal.returns-in-Some-clause-answer
unfolding answer_of
returns-in-Some-clause-answer g c =
    let X = store_in c.args.asking.now.view.now in
    let H = events_in c.args.asking.now.view.now in
    let t = c.args.asking.now.txn.0 in
    is_refused X H t c.args.first _ c.in-Some.why _ _ c.refusal.ensures.refusal c.in-Some.is c.refused.ensures

pub returns-then-not-is_scan-clause-answer : goal.returns-then-not-is_scan-clause-answer
unfolding answer_of
returns-then-not-is_scan-clause-answer g c =
    ap (carried (store_in c.args.asking.now.view.now) (events_in c.args.asking.now.view.now)) c.refused-then-not-is_scan.ensures
    ∙ sym (out_of_range (events_in c.args.asking.now.view.now) c.args.first c.args.count _ (sym c.is_scan.ensures ∙ c.if-not-is_scan.true))
    ∙ sym (is_not_refused (store_in c.args.asking.now.view.now) (events_in c.args.asking.now.view.now) c.args.asking.now.txn.0 c.args.first _ _ c.refusal.ensures.refusal c.in_default.is)

pub returns-in_default-scan_stop-clause-answer : goal.returns-in_default-scan_stop-clause-answer
unfolding answer_of
returns-in_default-scan_stop-clause-answer g c =
    let X = store_in c.args.asking.now.view.now in
    let H = events_in c.args.asking.now.view.now in
    let t = c.args.asking.now.txn.0 in
    stops X H t _ _ _ _ c.scan_stop.ensures (c.stopped.ensures X H)
    ∙ sym (in_range H c.args.first c.args.count _ (sym c.is_scan.ensures ∙ c.if-not-is_scan.false))
    ∙ sym (is_not_refused X H t c.args.first _ _ c.refusal.ensures.refusal c.in_default.is)

pub returns-in_default-scan_stop-clause-bounded : goal.returns-in_default-scan_stop-clause-bounded
returns-in_default-scan_stop-clause-bounded g c =
    let X = store_in c.args.asking.now.view.now in
    let H = events_in c.args.asking.now.view.now in
    (c.stopped.ensures X H).1 (g.C.Chains.lists c.args.asking.now.view.now.state.now.chains)

pub returns-in-Go-clause-answer : goal.returns-in-Go-clause-answer
unfolding answer_of
returns-in-Go-clause-answer g c =
    goes (store_in c.args.asking.now.view.now) (events_in c.args.asking.now.view.now) c.args.asking.now.txn.0 _ _ _ c.scan_stop.ensures c.in-Go.is
    ∙ sym (in_range (events_in c.args.asking.now.view.now) c.args.first c.args.count _ (sym c.is_scan.ensures ∙ c.if-not-is_scan.false))
    ∙ sym (is_not_refused (store_in c.args.asking.now.view.now) (events_in c.args.asking.now.view.now) c.args.asking.now.txn.0 c.args.first _ _ c.refusal.ensures.refusal c.in_default.is)
