-- Which history a register stands for, and for how many events it has room.
use Rattle.std.specs.Prelude.{ℕ, List, min}
use Rattle.teb_rules.specs.declared.history.Event.{Event}
use Rattle.teb_rules.specs.Setup.{Setup}
use Rattle.phase_api.specs.declared.facts.Facts.{Facts}
use Rattle.phase_api.specs.FactsView.{setup_of, events_of}
use Rattle.snapshot_node.specs.declared.register.Register.{Register}
use Rattle.snapshot_node.specs.Standing.{SnapshotStand}
use Rattle.snapshot_node.specs.Committed.{CommittedStand}

abbrev pub RegisterStands : Register → Setup → List Event → Type 0
RegisterStands r S H = SnapshotStand r.node.0 r.batches r.accesses S H

abbrev pub CommittedStands : Register → Setup → List Event → Type 0
CommittedStands r S H = CommittedStand r.node.0 r.accesses S H

abbrev pub StandsFor : Register → Facts → Type 0
StandsFor r f = RegisterStands r (setup_of f) (events_of f)

abbrev pub room_of : Register → ℕ
room_of r = min r.batches.spare r.accesses.spare
