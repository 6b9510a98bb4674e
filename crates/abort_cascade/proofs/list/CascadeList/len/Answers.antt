use Rattle.std.proofs.Common.{ap, arith, length}
use Rattle.std.proofs.lemmas.List.{length-take}
use Rattle.abort_cascade.proofs.list.CascadeList.len.Goals as goal

pub returns : goal.returns
returns c = omega (arith, ap length c.self.view_is, length-take c.self.inside.len c.self.inside.pairs, c.self.invariant.0, c.self.invariant.1)
