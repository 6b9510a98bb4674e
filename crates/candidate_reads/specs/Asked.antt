-- What is known when a version is asked for.
use Rattle.std.specs.Prelude.{ℕ, List, IsTrue, IsFalse}
use Rattle.teb_rules.specs.declared.names.Cell.{Cell}
use Rattle.teb_rules.specs.declared.history.Event.{Event}
use Rattle.teb_rules.specs.history.Phases.{aborted, unfinished, spot_of}
use Rattle.teb_rules.specs.Setup.{Setup}
use Rattle.teb_rules.specs.Tree.{row, on_path, is_timestamp}
use Rattle.teb_rules.specs.laws.TreeFacts.{TreeFacts}
use Rattle.teb_rules.specs.laws.Lawful.{Lawful}
use Rattle.phase_api.specs.declared.facts.Facts.{Facts}
use Rattle.phase_api.specs.Standing.{StandAll}
use Rattle.phase_api.specs.FactsView.{setup_of, events_of, IsTyped}
use Rattle.phase_api.specs.Versions.{has_version}

-- the tree is sound and the history lawful, and each control stands for them
pub record AreAsked {K : Type 0} (node_number : K → ℕ) (stands : K → Setup → List Event → Type 0) (all : List K) (f : Facts) : Type 0 where
  pub tree : TreeFacts (setup_of f)
  pub lawful : Lawful (setup_of f) (events_of f)
  pub controls : StandAll node_number stands all (setup_of f) (events_of f)

-- t may put x, and has no version of it yet
pub record MayPut (f : Facts) (t : ℕ) (x : Cell) : Type 0 where
  pub typed : IsTyped f t
  pub unfinished : IsTrue (unfinished (events_of f) t)
  pub absent : IsFalse (has_version (events_of f) x t)

-- t is not aborted, and reads a version of x that is not its own
pub record ReadsOthers (f : Facts) (t : ℕ) (x : Cell) : Type 0 where
  pub typed : IsTyped f t
  pub kept : IsFalse (aborted (events_of f) t)
  pub absent : IsFalse (has_version (events_of f) x t)

-- no timestamp node is on t's path
abbrev pub MeetsNoTimestamp : Setup → List Event → ℕ → Type 0
MeetsNoTimestamp S H t = (n : ℕ) → IsTrue (on_path S.tree n (spot_of H t)) → IsFalse (is_timestamp (row S.tree n).control)
