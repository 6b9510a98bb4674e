use Rattle.access_conflicts.proofs.Orderly.{orderly_none}
use Rattle.access_conflicts.proofs.Here.{here_none}
use Rattle.access_conflicts.proofs.hold_register.HoldRegister.new.Goals as goal

pub returns-clause-stands : goal.returns-clause-stands
returns-clause-stands c S = record {
  book = record { orderly = orderly_none S; holds = c.new.ensures.empty S c.args.node.0 };
  here = here_none S c.args.node.0 _ c.new-2.ensures.items;
}
