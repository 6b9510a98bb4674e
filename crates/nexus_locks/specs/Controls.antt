-- What a locks control shows of itself.
use Rattle.std.specs.Prelude.{ℕ, List}
use Rattle.teb_rules.specs.declared.history.Event.{Event}
use Rattle.teb_rules.specs.Setup.{Setup}
use Rattle.access_conflicts.specs.Registered.{register_spare}
use Rattle.nexus_locks.specs.Standing.{LocksStand}
use Rattle.nexus_locks.specs.declared.locks.Locks.{Locks}

-- which setup and history it stands for, the number of its node, and for how many events it has room
abbrev pub LocksStandFor : Locks → Setup → List Event → Type 0
LocksStandFor c S H = LocksStand c.register S H

abbrev pub locks_node_number : Locks → ℕ
locks_node_number c = c.register.node.0

abbrev pub locks_spare : Locks → ℕ
locks_spare c = register_spare c.register
