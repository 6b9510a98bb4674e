-- Shapes of trees that a guarantee asks for, and stores that show where it ends.
use Rattle.std.specs.Prelude.{ℕ, ◌<◌, Bool, false, ◌||◌, leb, List, [], ◌∷◌, length, Some, None, IsTrue}
use Rattle.teb_rules.specs.declared.names.Session.{Session}
use Rattle.teb_rules.specs.declared.names.Request.{Request}
use Rattle.teb_rules.specs.declared.names.ControlKind.{ControlKind}
use Rattle.teb_rules.specs.declared.names.ControlKind.TheVariants.{Locks}
use Rattle.teb_rules.specs.declared.history.Event.{Event}
use Rattle.teb_rules.specs.Setup.{NodeRow, Setup, Store}
use Rattle.teb_rules.specs.Tree.{row, is_locks, is_pipeline, is_snapshot}
use Rattle.teb_rules.specs.Accepted.{IsSound, has_types}
use Rattle.teb_rules.specs.laws.Laws.{reached}

-- the root is a locks or a pipeline node
abbrev pub orders_by_commits : Setup → Bool
orders_by_commits S = is_locks (row S.tree 0).control || is_pipeline (row S.tree 0).control

-- or it is a leaf, or admits one transaction a batch
abbrev pub keeps_time : Setup → Bool
keeps_time S = orders_by_commits S || has_types S.tree 0 || leb (row S.tree 0).batch 1

-- every node is a locks or a snapshot node
abbrev pub HidesUncommitted : Setup → Type 0
HidesUncommitted S = (n : ℕ) → n < length S.tree → IsTrue (is_locks (row S.tree n).control || is_snapshot (row S.tree n).control)

-- after the requests `asked` of the store X, which is sound, P does not hold
pub record Breaks (P : Store → List Event → Type 0) (X : Store) (asked : List (Session × Request)) : Type 0 where
  pub sound : IsSound X.setup
  pub fails : P X (reached X asked) → ⊥

-- after the requests `asked` of the store X, which is sound, P holds
pub record Shows (P : Store → List Event → Type 0) (X : Store) (asked : List (Session × Request)) : Type 0 where
  pub sound : IsSound X.setup
  pub holds : P X (reached X asked)

-- a leaf under the root
abbrev pub leaf_of : ControlKind → List ℕ → NodeRow
leaf_of c types = record { control = c; parent = Some 0; types = types; batch = 1; ordered = false; part = 0; parts = 1 }

-- a store of one table, no rows and two types of one step, under a root with batches of two and a locks leaf for each type
abbrev pub two_sides : ControlKind → Store
two_sides c = record {
  setup = record {
    types = 2;
    profiles = ((0 ∷ []) ∷ []) ∷ ((0 ∷ []) ∷ []) ∷ [];
    tree = record { control = c; parent = None; types = []; batch = 2; ordered = false; part = 0; parts = 1 } ∷ leaf_of Locks (0 ∷ []) ∷ leaf_of Locks (1 ∷ []) ∷ [];
  };
  tables = 1;
  rows = [];
}

-- a store of two tables, no rows and one type, which accesses the one table and then the other, under one node
abbrev pub one_node : ControlKind → Store
one_node c = record {
  setup = record {
    types = 1;
    profiles = ((0 ∷ []) ∷ (1 ∷ []) ∷ []) ∷ [];
    tree = record { control = c; parent = None; types = 0 ∷ []; batch = 2; ordered = false; part = 0; parts = 1 } ∷ [];
  };
  tables = 2;
  rows = [];
}
