use Rattle.std.proofs.Common.{◌∙◌, ap}
use Rattle.phase_api.specs.FactsView.{setup_of, events_of}
use Rattle.access_conflicts.specs.Waits.{wait_for_txn}
use Rattle.runtime_pipeline.proofs.Said.{pipeline_gate}
use Rattle.runtime_pipeline.proofs.pipeline.PipelineControl.gate.Goals as goal

pub returns : goal.returns
returns c = c.wait_for.ensures ∙ ap wait_for_txn c.first_ahead.ensures ∙ pipeline_gate (setup_of c.args.facts.now) (events_of c.args.facts.now) c.args.self.now.register.node.0 c.requires.stands.kind
    c.args.t.0
