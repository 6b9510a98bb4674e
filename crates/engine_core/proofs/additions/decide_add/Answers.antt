use Rattle.std.proofs.Common.{rules, ℤ, Some, sym, ◌∙◌, ap, w64}
use Rattle.std.proofs.lemmas.Int.{to_z-of_z}
use Rattle.std.specs.Prelude.{FitsSigned}
use Rattle.teb_rules.specs.Answer.{answer_of, put_value}
use Rattle.engine_core.specs.Decisions.{carried}
use Rattle.engine_core.specs.Views.{store_in, events_in}
use Rattle.engine_core.proofs.Adding.{adds, adds_to_nothing, overflows, summed}
use Rattle.engine_core.proofs.Deciding.{is_refused, is_not_refused}
use Rattle.engine_core.proofs.additions.decide_add.Goals as goal

pub returns-in-Some-clause-answer : goal.returns-in-Some-clause-answer
unfolding answer_of
returns-in-Some-clause-answer g c =
    let X = store_in c.args.asking.now.view.now in
    let H = events_in c.args.asking.now.view.now in
    let t = c.args.asking.now.txn.0 in
    is_refused X H t c.args.cell _ c.in-Some.why _ _ c.refusal.ensures.refusal c.in-Some.is c.refused.ensures

pub returns-in_default-add_base-clause-answer : goal.returns-in_default-add_base-clause-answer
unfolding answer_of
returns-in_default-add_base-clause-answer g c =
    let S = (store_in c.args.asking.now.view.now).setup in
    let X = store_in c.args.asking.now.view.now in
    let H = events_in c.args.asking.now.view.now in
    let t = c.args.asking.now.txn.0 in
    ap (carried X H) c.refused-in_default-add_base.ensures
    ∙ sym (adds_to_nothing S H t c.args.cell c.args.number _ (sym c.add_base.ensures ∙ c.in_default-add_base.is))
    ∙ sym (is_not_refused X H t c.args.cell _ _ c.refusal.ensures.refusal c.in_default.is)

pub returns-in-Some-sum_of-clause-answer : goal.returns-in-Some-sum_of-clause-answer
unfolding answer_of
returns-in-Some-sum_of-clause-answer g c =
    let S = (store_in c.args.asking.now.view.now).setup in
    let X = store_in c.args.asking.now.view.now in
    let H = events_in c.args.asking.now.view.now in
    let t = c.args.asking.now.txn.0 in
    let base_fits : FitsSigned w64 c.in-Some-add_base.base = search rules in
    let sum_fits : FitsSigned w64 c.in-Some-sum_of.sum = search rules in
    c.put.ensures.answer
    ∙ ap (λ (z : ℤ). put_value S H t c.args.cell (Some z)) (to_z-of_z w64 c.in-Some-sum_of.sum sum_fits)
    ∙ sym (adds S H t c.args.cell c.args.number _ c.in-Some-add_base.base c.in-Some-sum_of.sum (sym c.add_base.ensures ∙ c.in-Some-add_base.is)
    (summed c.in-Some-add_base.base c.args.number _ _ base_fits c.ranges.number c.sum_of.ensures c.in-Some-sum_of.is))
    ∙ sym (is_not_refused X H t c.args.cell _ _ c.refusal.ensures.refusal c.in_default.is)

pub returns-in-None-clause-answer : goal.returns-in-None-clause-answer
unfolding answer_of
returns-in-None-clause-answer g c =
    let S = (store_in c.args.asking.now.view.now).setup in
    let X = store_in c.args.asking.now.view.now in
    let H = events_in c.args.asking.now.view.now in
    let t = c.args.asking.now.txn.0 in
    let base_fits : FitsSigned w64 c.in-Some-add_base.base = search rules in
    ap (carried X H) c.refused-in-None.ensures
    ∙ sym (overflows S H t c.args.cell c.args.number _ c.in-Some-add_base.base (sym c.add_base.ensures ∙ c.in-Some-add_base.is)
    (summed c.in-Some-add_base.base c.args.number _ _ base_fits c.ranges.number c.sum_of.ensures c.in-None.is))
    ∙ sym (is_not_refused X H t c.args.cell _ _ c.refusal.ensures.refusal c.in_default.is)
