use Rattle.std.proofs.Common.{subst}
use Rattle.snapshot_node.specs.Pivots.{IsAcross, IsLeast}
use Rattle.snapshot_node.specs.Validating.{at}
use Rattle.snapshot_node.proofs.validation.Validation.heads_among.Goals as goal

pub returns-in-None-clause-left : goal.returns-in-None-clause-left
returns-in-None-clause-left c f b h = absurd (subst (IsLeast (at c.args.self.now IsAcross c.args.self.now.t.0 c.args.among.now)) c.in-None.is c.first_across.ensures b h)
