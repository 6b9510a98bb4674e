use Rattle.std.proofs.Common.{ℕ, sym, ◌∙◌, ap, subst}
use Rattle.std.specs.Prelude.{IsTrue}
use Rattle.teb_rules.specs.Tree.{on_path}
use Rattle.teb_rules.specs.Stops.{on_begin}
use Rattle.engine_core.specs.Views.{store_in, events_in}
use Rattle.engine_core.proofs.questions.BeginQuestionQuestion.verdict_at.Goals as goal

pub start-requires-clause-kind : goal.start-requires-clause-kind
start-requires-clause-kind g c = c.requires.1.0

pub start-requires-clause-on : goal.start-requires-clause-on
start-requires-clause-on g c = subst (λ (n : ℕ). IsTrue (on_path (store_in c.args.view.now).setup.tree n c.args.self.spot)) (sym c.control_at.ensures.node_number) c.requires.1.1

pub returns : goal.returns
returns g c = c.start.ensures ∙ ap (λ (n : ℕ). on_begin (store_in c.args.view.now).setup (events_in c.args.view.now) c.args.self.spot n) c.control_at.ensures.node_number
