-- The control of a node, of any kind.
use Rattle.std.specs.Prelude.{ℕ, List}
use Rattle.teb_rules.specs.declared.history.Event.{Event}
use Rattle.teb_rules.specs.Setup.{Setup}
use Rattle.phase_api.specs.FactsView.{IsOrderly}
use Rattle.nexus_locks.specs.Controls.{LocksStandFor, locks_node_number, locks_spare}
use Rattle.runtime_pipeline.specs.Standing.{PipelineStands, pipeline_node_number, pipeline_spare}
use Rattle.timestamp_node.specs.Controls.{StampsStandFor, stamps_node_number, stamps_spare}
use Rattle.snapshot_node.specs.Controls.{SnapshotStandsFor, snapshot_node_number, snapshot_spare}
use Rattle.engine_core.specs.declared.any_control.AnyControl.{AnyControl}
use Rattle.engine_core.specs.declared.any_control.AnyControl.TheVariants.{Locks, Pipeline, Timestamp, Snapshot}

-- which setup and history it stands for, its node, and for how many events it has room
abbrev pub any_stands : AnyControl → Setup → List Event → Type 0
any_stands (Locks c) S H = LocksStandFor c S H
any_stands (Pipeline c) S H = PipelineStands c S H
any_stands (Timestamp c) S H = StampsStandFor c S H
any_stands (Snapshot c) S H = SnapshotStandsFor c S H

abbrev pub any_node_number : AnyControl → ℕ
any_node_number (Locks c) = locks_node_number c
any_node_number (Pipeline c) = pipeline_node_number c
any_node_number (Timestamp c) = stamps_node_number c
any_node_number (Snapshot c) = snapshot_node_number c

abbrev pub any_spare : AnyControl → ℕ
any_spare (Locks c) = locks_spare c
any_spare (Pipeline c) = pipeline_spare c
any_spare (Timestamp c) = stamps_spare c
any_spare (Snapshot c) = snapshot_spare c

-- the history that it stands for is orderly
pub any_orderly : (c : AnyControl) (S : Setup) (H : List Event) → any_stands c S H → IsOrderly S H
any_orderly (Locks c) S H s = s.register.book.orderly
any_orderly (Pipeline c) S H s = s.register.book.orderly
any_orderly (Timestamp c) S H s = s.orderly
any_orderly (Snapshot c) S H s = s.register.orderly
