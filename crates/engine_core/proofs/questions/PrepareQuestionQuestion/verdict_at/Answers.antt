use Rattle.std.proofs.Common.{ℕ, sym, ◌∙◌, ap, subst}
use Rattle.teb_rules.specs.Tree.{row}
use Rattle.teb_rules.specs.Controls.{validate}
use Rattle.phase_api.specs.Calls.{IsHere}
use Rattle.engine_core.specs.Views.{store_in, events_in}
use Rattle.engine_core.proofs.questions.PrepareQuestionQuestion.verdict_at.Goals as goal

pub validate-requires-clause-here : goal.validate-requires-clause-here
validate-requires-clause-here g c = subst (λ (n : ℕ). IsHere c.args.view.now.facts n c.args.self.txn.0) (sym c.control_at.ensures.node_number) c.requires.1.0

pub validate-requires-clause-unfinished : goal.validate-requires-clause-unfinished
validate-requires-clause-unfinished g c = c.requires.1.1

pub returns : goal.returns
returns g c =
    let S = (store_in c.args.view.now).setup in
    let H = events_in c.args.view.now in
    c.validate.ensures ∙ ap (λ (n : ℕ). validate (row S.tree n).control S H n c.args.self.txn.0) c.control_at.ensures.node_number
