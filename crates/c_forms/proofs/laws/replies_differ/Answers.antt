use Rattle.c_forms.proofs.ReadBack.{replies_differ as law}
use Rattle.c_forms.proofs.laws.replies_differ.Goals as goal

pub returns : goal.returns
returns c = law
