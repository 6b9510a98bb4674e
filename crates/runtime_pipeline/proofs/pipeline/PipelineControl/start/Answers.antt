use Rattle.phase_api.specs.FactsView.{setup_of, events_of}
use Rattle.runtime_pipeline.proofs.Said.{pipeline_start}
use Rattle.runtime_pipeline.proofs.pipeline.PipelineControl.start.Goals as goal

pub returns : goal.returns
returns c = pipeline_start (setup_of c.args._facts.now) (events_of c.args._facts.now) c.args.self.now.register.node.0 c.requires.stands.kind c.args._s
