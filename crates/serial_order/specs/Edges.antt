-- Edges of a snapshot node to committed transactions.
use Rattle.std.specs.Prelude.{◌≡◌, ℕ, ◌<◌, Bool, false, ◌&&◌, eqb, List, length, slice_index_or, IsTrue}
use Rattle.std.specs.List.{list_any}
use Rattle.teb_rules.specs.declared.names.ControlKind.TheVariants.{Snapshot}
use Rattle.teb_rules.specs.declared.history.Event.{Event}
use Rattle.teb_rules.specs.history.Phases.{begun, committed}
use Rattle.teb_rules.specs.Setup.{Setup}
use Rattle.teb_rules.specs.Tree.{row, on}
use Rattle.teb_rules.specs.Batches.{start}
use Rattle.teb_rules.specs.Ranks.{has_edge_out}
use Rattle.snapshot_node.specs.Leaving.{has_edge}

-- a is committed, with n on its path, and has an edge to a committed transaction
abbrev pub leads_out : Setup → List Event → ℕ → ℕ → Bool
leads_out S H n a = committed H a && on S H n a && has_edge S H n a

-- the same, with a batch that starts at position i
abbrev pub leads_from : Setup → List Event → ℕ → ℕ → ℕ → Bool
leads_from S H n i a = leads_out S H n a && eqb (start S H n a) i

-- a position is marked if a batch starts there from which one of us leads out
pub record AreMarked (S : Setup) (H : List Event) (n : ℕ) (us : List ℕ) (ms : List Bool) : Type 0 where
  pub one_each : length ms ≡ length H
  pub marked : (i : ℕ) → i < length H → slice_index_or ms i false ≡ list_any (leads_from S H n i) us

-- the position at which t's batch starts has a mark, which says whether it has an edge out
pub record IsMarked (S : Setup) (H : List Event) (n t : ℕ) (marks : List Bool) : Type 0 where
  pub within : start S H n t < length marks
  pub says : slice_index_or marks (start S H n t) false ≡ has_edge_out S H n t

-- this holds of all transactions at each snapshot node
abbrev pub MarkEdges : Setup → List Event → List Bool → Type 0
MarkEdges S H marks = (n t : ℕ) → (row S.tree n).control ≡ Snapshot → IsTrue (begun H t) → IsTrue (on S H n t) → IsMarked S H n t marks
