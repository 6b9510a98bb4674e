-- Definitions about facts with controls.
use Rattle.std.specs.Prelude.{◌<◌, ℕ, List, length, IsTrue}
use Rattle.teb_rules.specs.declared.history.Event.{Event}
use Rattle.teb_rules.specs.Setup.{Setup}
use Rattle.teb_rules.specs.Tree.{has_batches}
use Rattle.phase_api.specs.FactsView.{setup_of, events_of}
use Rattle.phase_api.specs.Calls.{IsHere}
use Rattle.phase_api.specs.Standing.{StandAll}
use Rattle.engine_core.specs.AnyControls.{any_node_number, any_stands}
use Rattle.serial_order.specs.declared.booked.Booked.{Booked}

abbrev pub history : Booked → List Event
history b = events_of b.facts.now

-- the controls are those of all nodes, and stand for the history
abbrev pub ControlsStand : Booked → Type 0
ControlsStand b = StandAll any_node_number any_stands b.controls.now (setup_of b.facts.now) (events_of b.facts.now)

-- n is a node of the tree
abbrev pub IsNode : Booked → ℕ → Type 0
IsNode b n = n < length (setup_of b.facts.now).tree

abbrev pub HasBatches : Booked → ℕ → Type 0
HasBatches b n = IsTrue (has_batches (setup_of b.facts.now).tree n)

-- n is on the path of t
abbrev pub IsAt : Booked → ℕ → ℕ → Type 0
IsAt b n t = IsHere b.facts.now n t

-- a definition, applied to the setup and the history
abbrev pub told {ℓ} : {A : Type ℓ} → Booked → (Setup → List Event → A) → A
told b p = p (setup_of b.facts.now) (events_of b.facts.now)
