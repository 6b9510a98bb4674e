use Rattle.engine_store.proofs.Labels.{label_tells}
use Rattle.engine_store.proofs.label.label_tells_names.Goals as goal

pub returns : goal.returns
returns c = label_tells
