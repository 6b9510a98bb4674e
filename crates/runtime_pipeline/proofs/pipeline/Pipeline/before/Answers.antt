use Rattle.std.proofs.Common.{◌∙◌, Bool, [], cond, ap}
use Rattle.phase_api.specs.FactsView.{setup_of, events_of}
use Rattle.runtime_pipeline.specs.Predecessors.{before_in}
use Rattle.runtime_pipeline.proofs.pipeline.Pipeline.before.Goals as goal

pub returns : goal.returns
returns c =
    c.list.ensures ∙ c.requires.stands.predecessors.ahead c.args.t
    ∙ ap (λ (b : Bool). cond b (before_in (setup_of c.args._facts.now) (events_of c.args._facts.now) c.args.self.now.register.node.0 c.args.t.0) []) c.requires.unfinished
