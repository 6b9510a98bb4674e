-- The phases of a store, one engine after another.
use Rattle.std.specs.Prelude.{◌≡◌, ℕ, List, [], ◌∷◌, ◌++◌}
use Rattle.teb_rules.specs.declared.names.Cell.{Cell}
use Rattle.teb_rules.specs.names.Rows.{row_of}
use Rattle.teb_rules.specs.Replay.{Values}
use Rattle.teb_rules.specs.Serializes.{final_table}
use Rattle.engine_core.specs.EngineModel.{EngineModel, IsOfEngine}

-- the phases that are past, the oldest first, and the present one
pub record Course : Type 0 where
  pub past : List EngineModel
  pub present : EngineModel

-- all phases, the oldest first
abbrev pub phases : Course → List EngineModel
phases p = p.past ++ p.present ∷ []

abbrev pub first_of : List EngineModel → EngineModel → EngineModel
first_of [] e = e
first_of (d ∷ ds) e = d

abbrev pub first : Course → EngineModel
first p = first_of p.past p.present

-- the table with which a phase starts, and the one that it has left so far
abbrev pub start_of : EngineModel → Values
start_of e = row_of e.store.rows

abbrev pub end_of : EngineModel → Values
end_of e = final_table e.store e.events

-- the phase of an engine, over tables of these names, that starts with this table
pub record StartsWith (names : List (List ℕ)) (T : Values) (e : EngineModel) : Type 0 where
  pub engine : IsOfEngine e
  pub tables : e.names.tables ≡ names
  pub rows : (x : Cell) → start_of e x ≡ T x

-- the first of the phases starts with this table, and each later one with what the one before it left
abbrev pub GoOn : List (List ℕ) → Values → List EngineModel → Type 0
GoOn names T [] = Unit {0}
GoOn names T (e ∷ later) = StartsWith names T e × GoOn names (end_of e) later

-- this holds of all phases, over the tables and from the rows of the first
abbrev pub IsCourse : Course → Type 0
IsCourse p = GoOn (first p).names.tables (start_of (first p)) (phases p)
