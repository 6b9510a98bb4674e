use Rattle.std.proofs.Common.{sym, ◌∙◌, ap}
use Rattle.engine_core.specs.Decisions.{carried}
use Rattle.engine_core.specs.Views.{store_in, events_in}
use Rattle.engine_core.proofs.Deciding.{holds_nothing}
use Rattle.engine_core.proofs.decide.decide_new.Goals as goal

pub returns-in_default-clause-answer : goal.returns-in_default-clause-answer
returns-in_default-clause-answer g c =
    let S = (store_in c.args.view.now).setup in
    let X = store_in c.args.view.now in
    let H = events_in c.args.view.now in
    ap (carried X H) c.refused.ensures ∙ sym (holds_nothing S H c.args.session c.args.request c.in_default.not-Begin)
