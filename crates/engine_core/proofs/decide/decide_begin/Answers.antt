use Rattle.std.proofs.Common.{◌+◌, sym, ◌∙◌, ap, arith}
use Rattle.engine_core.specs.Decisions.{carried}
use Rattle.engine_core.specs.Views.{store_in, events_in}
use Rattle.engine_core.proofs.Beginning.{begin_goes}
use Rattle.engine_core.proofs.Deciding.{begins_unknown, begins_full, begins_late, begins}
use Rattle.engine_core.proofs.decide.decide_begin.Goals as goal

pub returns-then-not-has_type-clause-answer : goal.returns-then-not-has_type-clause-answer
returns-then-not-has_type-clause-answer g c = ap (carried (store_in c.args.view.now) (events_in c.args.view.now)) c.refused.ensures
    ∙ sym (begins_unknown (store_in c.args.view.now).setup (events_in c.args.view.now) c.args.session c.args.spot (sym c.has_type.ensures ∙ c.if-not-has_type.true))

pub returns-then-begun-ge-MOST_TXNS-clause-answer : goal.returns-then-begun-ge-MOST_TXNS-clause-answer
returns-then-begun-ge-MOST_TXNS-clause-answer g c =
    let S = (store_in c.args.view.now).setup in
    let X = store_in c.args.view.now in
    let H = events_in c.args.view.now in
    ap (carried X H) c.refused-then-begun-ge-MOST_TXNS.ensures
    ∙ sym (begins_full S H c.args.session c.args.spot (sym c.has_type.ensures ∙ c.if-not-has_type.false) (omega (arith, c.begun-begun.ensures, c.if-begun-ge-MOST_TXNS.true)))

pub returns-in-Wait-clause-answer : goal.returns-in-Wait-clause-answer
returns-in-Wait-clause-answer g c =
    let S = (store_in c.args.view.now).setup in
    let H = events_in c.args.view.now in
    sym (begins_late S H c.args.session c.args.spot c.in-Wait.who c.in-Wait.node (sym c.has_type.ensures ∙ c.if-not-has_type.false)
    (omega (arith, c.begun-begun.ensures, c.if-begun-ge-MOST_TXNS.false)) (sym c.in-Wait.is ∙ c.begin_stop.ensures))

pub returns-clause-answer : goal.returns-clause-answer
returns-clause-answer g c =
    let S = (store_in c.args.view.now).setup in
    let H = events_in c.args.view.now in
    sym (begins S H c.args.session c.args.spot (record { 0 = c.begun-begun.result + 1 }) (sym c.has_type.ensures ∙ c.if-not-has_type.false)
    (omega (arith, c.begun-begun.ensures, c.if-begun-ge-MOST_TXNS.false)) (λ u n e. c.in_default.not-Wait u n (c.begin_stop.ensures ∙ e)) (omega (arith, c.begun-begun.ensures)))

pub returns-clause-bounded : goal.returns-clause-bounded
returns-clause-bounded g c =
    let S = (store_in c.args.view.now).setup in
    let H = events_in c.args.view.now in
    ((omega (arith, c.begun-begun.ensures, c.if-begun-ge-MOST_TXNS.false), begin_goes S H c.args.spot (λ u n e. c.in_default.not-Wait u n (c.begin_stop.ensures ∙ e))), tt)
