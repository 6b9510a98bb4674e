use Rattle.std.proofs.Common.{◌∙◌, ap, sym}
use Rattle.phase_api.specs.FactsView.{setup_of, events_of}
use Rattle.runtime_pipeline.specs.Standing.{passed_some}
use Rattle.runtime_pipeline.proofs.pipeline.Pipeline.has_passed_some.Goals as goal

pub returns-in-Some : goal.returns-in-Some
returns-in-Some c = c.has_passed.ensures ∙ sym (ap (passed_some (setup_of c.args.facts.now) (events_of c.args.facts.now) c.args.self.now.register.node.0 c.args.u.0) c.in-Some.is)

pub returns-in-None : goal.returns-in-None
returns-in-None c = sym (ap (passed_some (setup_of c.args.facts.now) (events_of c.args.facts.now) c.args.self.now.register.node.0 c.args.u.0) c.in-None.is)
