-- Which history a locks control stands for.
use Rattle.std.specs.Prelude.{◌≡◌, List}
use Rattle.teb_rules.specs.declared.history.Event.{Event}
use Rattle.teb_rules.specs.declared.names.ControlKind.TheVariants.{Locks}
use Rattle.teb_rules.specs.Setup.{Setup}
use Rattle.teb_rules.specs.Tree.{row}
use Rattle.access_conflicts.specs.Registered.{Registered}
use Rattle.access_conflicts.specs.declared.hold_register.HoldRegister.{HoldRegister}

-- the node of a register is a locks node, and the register shows the holds there
pub record LocksStand (r : HoldRegister) (S : Setup) (H : List Event) : Type 0 where
  pub kind : (row S.tree r.node.0).control ≡ Locks
  pub register : Registered r S H
