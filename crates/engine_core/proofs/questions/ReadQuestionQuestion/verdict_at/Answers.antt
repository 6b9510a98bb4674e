use Rattle.std.proofs.Common.{ℕ, false, sym, ◌∙◌, ap, subst}
use Rattle.teb_rules.specs.Tree.{row}
use Rattle.teb_rules.specs.Controls.{on_access}
use Rattle.phase_api.specs.Calls.{IsAccess}
use Rattle.engine_core.specs.Views.{store_in, events_in}
use Rattle.engine_core.proofs.questions.ReadQuestionQuestion.verdict_at.Goals as goal

pub before_read-requires-clause-access : goal.before_read-requires-clause-access
before_read-requires-clause-access g c =
    subst (λ (n : ℕ). IsAccess c.args.view.now.facts n c.args.self.txn.0 c.args.self.cell) (sym c.control_at.ensures.node_number) c.requires.1

pub returns : goal.returns
returns g c =
    let S = (store_in c.args.view.now).setup in
    let H = events_in c.args.view.now in
    c.before_read.ensures ∙ ap (λ (n : ℕ). on_access (row S.tree n).control S H n c.args.self.txn.0 c.args.self.cell false) c.control_at.ensures.node_number
