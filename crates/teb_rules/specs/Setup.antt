-- What a store is set up with: the profiles of its types and the tree of controls, which the controls go by, and its tables and starting rows.
use Rattle.std.specs.Prelude.{ℕ, suc, max, Bool, cond, eqb, List, [], ◌∷◌, get_or, Option, Some, None, ℤ}
use Rattle.std.specs.List.{list_any}
use Rattle.teb_rules.specs.declared.names.Cell.{Cell}
use Rattle.teb_rules.specs.declared.names.ControlKind.{ControlKind}

-- a node of the tree: the number of a node is its place in the list of nodes. A leaf has types, and takes one part of
-- their instances, of `parts` parts
pub record NodeRow : Type 0 where
  pub control : ControlKind
  pub parent : Option ℕ
  pub types : List ℕ
  pub batch : ℕ
  pub ordered : Bool
  pub part : ℕ
  pub parts : ℕ

-- what the controls go by: how many types there are; for each type its steps, each a list of tables; and the tree
pub record Setup : Type 0 where
  pub types : ℕ
  pub profiles : List (List (List ℕ))
  pub tree : List NodeRow

-- a whole store: its setup, how many tables there are, and the starting rows
pub record Store : Type 0 where
  pub setup : Setup
  pub tables : ℕ
  pub rows : List (Cell × ℤ)

-- one more than the greatest of the numbers
abbrev pub above : List ℕ → ℕ
above [] = 0
above (x ∷ xs) = max (suc x) (above xs)

abbrev pub above_steps : List (List ℕ) → ℕ
above_steps [] = 0
above_steps (xs ∷ steps) = max (above xs) (above_steps steps)

abbrev pub above_profiles : List (List (List ℕ)) → ℕ
above_profiles [] = 0
above_profiles (steps ∷ profiles) = max (above_steps steps) (above_profiles profiles)

-- one more than the greatest table of the profiles: the tables that have ranks are below it
abbrev pub ranked_tables : Setup → ℕ
ranked_tables S = above_profiles S.profiles

-- n is one of ms
abbrev pub among : ℕ → List ℕ → Bool
among n ms = list_any (λ m. eqb m n) ms

-- the steps of type k
abbrev pub profile : Setup → ℕ → List (List ℕ)
profile S k = get_or S.profiles k []
