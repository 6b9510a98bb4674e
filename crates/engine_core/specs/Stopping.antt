-- The place that the nodes of a path are told.
use Rattle.std.specs.Prelude.{ℕ, List, Option, Some, None, IsTrue}
use Rattle.teb_rules.specs.declared.names.Cell.{Cell}
use Rattle.teb_rules.specs.declared.history.Event.{Event}
use Rattle.teb_rules.specs.history.Phases.{spot_of}
use Rattle.teb_rules.specs.Setup.{Setup}
use Rattle.teb_rules.specs.Tree.{on_path}
use Rattle.candidate_reads.specs.declared.placing.Place.{Place}
use Rattle.phase_api.specs.Versions.{IsToldPlace}

-- the number of a place that was asked for
abbrev pub at_of : Option Place → Option ℕ
at_of None = None
at_of (Some p) = Some p.at

-- each node on t's path is told the place of t's version of x, if it has to be told
abbrev pub AreTold : Setup → List Event → Cell → ℕ → Option ℕ → List ℕ → Type 0
AreTold S H x t at ws = (n : ℕ) → IsTrue (on_path S.tree n (spot_of H t)) → IsToldPlace S H n x t at ws
