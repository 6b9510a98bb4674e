use Rattle.c_forms.proofs.ReadBack.{events_differ as law}
use Rattle.c_forms.proofs.laws.events_differ.Goals as goal

pub returns : goal.returns
returns c = law
