-- What a timestamp control shows of itself.
use Rattle.std.specs.Prelude.{ℕ, min, List}
use Rattle.teb_rules.specs.declared.history.Event.{Event}
use Rattle.teb_rules.specs.Setup.{Setup}
use Rattle.timestamp_node.specs.Standing.{StampsStand}
use Rattle.timestamp_node.specs.declared.stamps.Stamps.{Stamps}

-- which setup and history it stands for, the number of its node, and for how many events it has room
abbrev pub StampsStandFor : Stamps → Setup → List Event → Type 0
StampsStandFor c S H = StampsStand c.node.0 c.ordered c.batches c.reads S H

abbrev pub stamps_node_number : Stamps → ℕ
stamps_node_number c = c.node.0

abbrev pub stamps_spare : Stamps → ℕ
stamps_spare c = min c.batches.spare c.reads.spare
