use Rattle.std.proofs.Common.{◌∙◌, ltb}
use Rattle.phase_api.specs.FactsView.{setup_of, events_of}
use Rattle.runtime_pipeline.proofs.Said.{pipeline_orders}
use Rattle.runtime_pipeline.proofs.pipeline.PipelineControl.orders.Goals as goal

pub returns : goal.returns
returns c = (λ j. ltb (c.put_at.ensures j) (c.put_at-2.ensures j)) ∙ pipeline_orders (setup_of c.args.facts.now) (events_of c.args.facts.now) c.args.self.now.register.node.0 c.requires.stands.kind
    c.args.u.0 c.args.w.0 c.args.cell
