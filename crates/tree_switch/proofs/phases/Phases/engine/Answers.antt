use Rattle.std.proofs.Common.{subst}
use Rattle.tree_switch.specs.Serial.{IsSerial}
use Rattle.tree_switch.proofs.WholeOrder.{is_serial}
use Rattle.tree_switch.proofs.phases.Phases.engine.Goals as goal

pub returns-clause-serial : goal.returns-clause-serial
returns-clause-serial g c = subst IsSerial c.self.view_is (is_serial (record { past = c.self.inside.past.items; present = c.self.inside.present }) c.self.invariant)
