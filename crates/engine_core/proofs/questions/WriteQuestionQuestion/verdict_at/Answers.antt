use Rattle.std.proofs.Common.{ℕ, true, sym, ◌∙◌, ap, subst}
use Rattle.teb_rules.specs.Tree.{row}
use Rattle.teb_rules.specs.Controls.{on_access}
use Rattle.version_chain.specs.Lists.{writers_of}
use Rattle.phase_api.specs.Calls.{IsAccess}
use Rattle.phase_api.specs.Versions.{IsToldPlace}
use Rattle.engine_core.specs.Views.{store_in, events_in}
use Rattle.engine_core.proofs.ReadSources.{sources_stand}
use Rattle.engine_core.proofs.questions.WriteQuestionQuestion.verdict_at.Goals as goal

pub before_write-requires-clause-access : goal.before_write-requires-clause-access
before_write-requires-clause-access g c =
    subst (λ (n : ℕ). IsAccess c.args.view.now.facts n c.args.self.txn.0 c.args.self.cell) (sym c.control_at-control.ensures.node_number) c.requires.1.0

pub before_write-requires-clause-sources : goal.before_write-requires-clause-sources
before_write-requires-clause-sources g c =
    sources_stand (store_in c.args.view.now).setup (events_in c.args.view.now) c.args.self.cell c.args.view.now.whole.whole.lawful c.args.view.now.whole.settled

pub before_write-requires-clause-at : goal.before_write-requires-clause-at
before_write-requires-clause-at g c =
    let ws = writers_of (g.C.Chains.lists c.args.view.now.state.now.chains c.args.self.cell) in
    subst (λ (n : ℕ). IsToldPlace (store_in c.args.view.now).setup (events_in c.args.view.now) n c.args.self.cell c.args.self.txn.0 c.args.self.at ws) (sym c.control_at-control.ensures.node_number)
    c.requires.1.1

pub returns : goal.returns
returns g c =
    let S = (store_in c.args.view.now).setup in
    let H = events_in c.args.view.now in
    c.before_write.ensures ∙ ap (λ (n : ℕ). on_access (row S.tree n).control S H n c.args.self.txn.0 c.args.self.cell true) c.control_at-control.ensures.node_number
