-- What the nodes of a path show together, each of which shows a place or none.
use Rattle.std.specs.Prelude.{ℕ, List, [], ◌∷◌, reverse, Option, None}
use Rattle.teb_rules.specs.declared.names.Cell.{Cell}
use Rattle.teb_rules.specs.declared.history.Event.{Event}
use Rattle.teb_rules.specs.history.Phases.{spot_of}
use Rattle.teb_rules.specs.Setup.{Setup}
use Rattle.teb_rules.specs.Tree.{path}
use Rattle.version_chain.specs.Lists.{last_place}
use Rattle.candidate_reads.specs.Shown.{shows, later}

-- a candidate that these nodes amend, one after the other
abbrev pub amended : (ℕ → Option ℕ) → Option ℕ → List ℕ → Option ℕ
amended shown candidate [] = candidate
amended shown candidate (n ∷ above) = amended shown (later candidate (shown n)) above

-- the candidate of the first node, amended by the later ones
abbrev pub candidate_of : (ℕ → Option ℕ) → List ℕ → Option ℕ
candidate_of shown [] = None
candidate_of shown (leaf ∷ above) = amended shown (shown leaf) above

-- from the leaf of t up to the root
abbrev pub nodes_up : Setup → List Event → ℕ → List ℕ
nodes_up S H t = reverse (path S.tree (spot_of H t))

-- of the writers ws of x: the place of the last one that the nodes from the leaf of t up to the root show it
abbrev pub candidate_up : Setup → List Event → ℕ → Cell → List ℕ → Option ℕ
candidate_up S H t x ws = candidate_of (λ n. last_place (shows S H n x t) ws) (nodes_up S H t)
