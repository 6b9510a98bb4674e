use Rattle.c_forms.proofs.ReadBack.{reply_back as law}
use Rattle.c_forms.proofs.laws.replies_are_read_back.Goals as goal

pub returns : goal.returns
returns c = law
