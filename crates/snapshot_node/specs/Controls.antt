-- What a snapshot control shows of itself.
use Rattle.std.specs.Prelude.{ℕ, min, ◌-◌, vec_len, vec_capacity, List}
use Rattle.teb_rules.specs.declared.history.Event.{Event}
use Rattle.teb_rules.specs.Setup.{Setup}
use Rattle.snapshot_node.specs.Stood.{room_of}
use Rattle.snapshot_node.specs.Marks.{MarkedStand}
use Rattle.snapshot_node.specs.declared.snapshot.Snapshot.{Snapshot}

-- which setup and history it stands for, the number of its node, and for how many events it has room
abbrev pub SnapshotStandsFor : Snapshot → Setup → List Event → Type 0
SnapshotStandsFor c S H = MarkedStand c.register.node.0 c.register.batches c.register.accesses c.marks.items S H

abbrev pub snapshot_node_number : Snapshot → ℕ
snapshot_node_number c = c.register.node.0

abbrev pub snapshot_spare : Snapshot → ℕ
snapshot_spare c = min (room_of c.register) (vec_capacity c.marks - vec_len c.marks)
