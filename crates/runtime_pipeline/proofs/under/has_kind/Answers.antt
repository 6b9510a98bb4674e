use Rattle.std.proofs.Common.{◌∙◌}
use Rattle.runtime_pipeline.proofs.Ways.{has_among}
use Rattle.runtime_pipeline.proofs.under.has_kind.Goals as goal

pub returns : goal.returns
returns c = c.contains.ensures.value ∙ has_among c.args.kinds.now c.args.kind.0
