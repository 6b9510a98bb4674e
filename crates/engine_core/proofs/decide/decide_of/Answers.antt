use Rattle.std.proofs.Common.{rules, ℤ, Some, sym, ◌∙◌, ap, w64}
use Rattle.std.specs.Prelude.{FitsSigned}
use Rattle.std.proofs.lemmas.Int.{to_z-of_z}
use Rattle.teb_rules.specs.declared.names.Request.{Request}
use Rattle.teb_rules.specs.Answer.{answer_of, or_refused, put_value}
use Rattle.engine_core.specs.Decisions.{carried}
use Rattle.engine_core.specs.Views.{store_in, events_in}
use Rattle.engine_core.proofs.decide.decide_of.Goals as goal

pub returns-in-Begin-clause-answer : goal.returns-in-Begin-clause-answer
unfolding answer_of
returns-in-Begin-clause-answer g c =
    let X = store_in c.args.asking.now.view.now in
    let H = events_in c.args.asking.now.view.now in
    let t = c.args.asking.now.txn.0 in
    ap (carried X H) c.refused.ensures ∙ ap (λ (r : Request). answer_of X H t r) (sym c.in-Begin.is)

pub returns-in-Write-clause-answer : goal.returns-in-Write-clause-answer
unfolding answer_of
returns-in-Write-clause-answer g c =
    let S = (store_in c.args.asking.now.view.now).setup in
    let X = store_in c.args.asking.now.view.now in
    let H = events_in c.args.asking.now.view.now in
    let t = c.args.asking.now.txn.0 in
    let value_fits : FitsSigned w64 c.in-Write.value = search rules in
    c.decide_write.ensures.answer
    ∙ ap (λ (z : ℤ). or_refused X H t c.in-Write.cell (put_value S H t c.in-Write.cell (Some z))) (to_z-of_z w64 c.in-Write.value value_fits)
    ∙ ap (λ (r : Request). answer_of X H t r) (sym c.in-Write.is)

pub returns-in-Delete-clause-answer : goal.returns-in-Delete-clause-answer
unfolding answer_of
returns-in-Delete-clause-answer g c =
    let X = store_in c.args.asking.now.view.now in
    let H = events_in c.args.asking.now.view.now in
    let t = c.args.asking.now.txn.0 in
    c.decide_write-in-Delete.ensures.answer ∙ ap (λ (r : Request). answer_of X H t r) (sym c.in-Delete.is)

pub returns-in-Abort-clause-answer : goal.returns-in-Abort-clause-answer
unfolding answer_of
returns-in-Abort-clause-answer g c = ap (λ (r : Request). answer_of (store_in c.args.asking.now.view.now) (events_in c.args.asking.now.view.now) c.args.asking.now.txn.0 r) (sym c.in-Abort.is)

pub returns-in-End-clause-answer : goal.returns-in-End-clause-answer
unfolding answer_of
returns-in-End-clause-answer g c = ap (λ (r : Request). answer_of (store_in c.args.asking.now.view.now) (events_in c.args.asking.now.view.now) c.args.asking.now.txn.0 r) (sym c.in-End.is)
