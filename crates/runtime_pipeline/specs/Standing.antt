-- Which history a pipeline control stands for.
use Rattle.std.specs.Prelude.{◌≡◌, ◌≤◌, ℕ, Bool, false, not, ◌&&◌, min, List, length, slice_index, Option, Some, None}
use Rattle.teb_rules.specs.declared.history.Event.{Event}
use Rattle.teb_rules.specs.declared.names.ControlKind.TheVariants.{Pipeline as IsPipeline}
use Rattle.teb_rules.specs.Setup.{Setup}
use Rattle.teb_rules.specs.Tree.{row}
use Rattle.teb_rules.specs.Steps.{rank_of_table, passed}
use Rattle.access_conflicts.specs.Registered.{Registered, register_spare}
use Rattle.cursor_book.specs.Cursors.{CursorsOf}
use Rattle.runtime_pipeline.specs.declared.pipeline.Pipeline.{Pipeline}
use Rattle.runtime_pipeline.specs.Predecessors.{PredecessorsOf, is_ahead}

-- each table has its rank at node n; those past the end of the list have rank 0
abbrev pub RanksOf : List ℕ → Setup → ℕ → Type 0
RanksOf ranks S n = (a : ℕ) → slice_index ranks a ≡ rank_of_table S n a

-- the number of the node
abbrev pub pipeline_node_number : Pipeline → ℕ
pipeline_node_number c = c.register.node.0

-- for how many events there is room
abbrev pub pipeline_spare : Pipeline → ℕ
pipeline_spare c = min (register_spare c.register) (min c.cursors.spare c.predecessors.spare)

-- it is the control of a pipeline node, and what it keeps is what the setup and the history say
pub record PipelineStands (c : Pipeline) (S : Setup) (H : List Event) : Type 0 where
  pub kind : (row S.tree c.register.node.0).control ≡ IsPipeline
  pub profiled : S.types ≤ length S.profiles
  pub register : Registered c.register S H
  pub ranks : RanksOf c.ranks S c.register.node.0
  pub cursors : CursorsOf c.cursors.cursors S H
  pub predecessors : PredecessorsOf c.predecessors S H c.register.node.0

-- u has passed a rank; false if none is given
abbrev pub passed_some : Setup → List Event → ℕ → ℕ → Option ℕ → Bool
passed_some S H n u None = false
passed_some S H n u (Some k) = passed S H n u k

-- u is ahead of t, and has not passed the rank
abbrev pub holds_up : Setup → List Event → ℕ → ℕ → Option ℕ → ℕ → Bool
holds_up S H n t k u = is_ahead S H n t u && not (passed_some S H n u k)
