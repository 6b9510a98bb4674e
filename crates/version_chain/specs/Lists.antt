-- Chains as lists: the versions of a cell, each a writer and a value, in version order.
use Rattle.std.specs.Prelude.{ℕ, zero, suc, Bool, not, nat_le, eqb, if◌then◌else◌, List, [], ◌∷◌, map, filter, Option, Some, None, ℤ}
use Rattle.std.specs.List.{list_any}
use Rattle.teb_rules.specs.declared.names.Txn.{Txn}

-- a writer and its value, None if it deleted the row
abbrev pub Version : Type 0
Version = Txn × Option ℤ

abbrev pub writers_of : List Version → List ℕ
writers_of vs = map (λ v. v.0.0) vs

-- t wrote one of the versions
abbrev pub is_writer : List Version → ℕ → Bool
is_writer vs t = list_any (λ w. eqb w t) (writers_of vs)

-- a place in the rest of a list, as a place in the whole
abbrev pub next_place : Option ℕ → Option ℕ
next_place None = None
next_place (Some i) = Some (suc i)

-- the first place of a list that passes
abbrev pub first_place : (ℕ → Bool) → List ℕ → Option ℕ
first_place p [] = None
first_place p (w ∷ ws) = if p w then Some 0 else next_place (first_place p ws)

-- the last place of a list that passes
abbrev pub last_place : (ℕ → Bool) → List ℕ → Option ℕ
last_place p [] = None
last_place p (w ∷ ws) = elim (last_place p ws) [ None ↦ if p w then Some 0 else None | Some i ↦ Some (suc i) ]

-- a place that is n or above
abbrev pub unless_below : ℕ → Option ℕ → Option ℕ
unless_below n None = None
unless_below n (Some i) = if nat_le n i then Some i else None

-- the place of t, or else the last place that passes
abbrev pub own_or_last : ℕ → (ℕ → Bool) → List ℕ → Option ℕ
own_or_last t p ws = elim (first_place (λ w. eqb w t) ws) [ None ↦ last_place p ws | Some i ↦ Some i ]

-- the i-th version with another value
abbrev pub set_value : ℕ → Option ℤ → List Version → List Version
set_value i value [] = []
set_value zero value (v ∷ vs) = (v.0, value) ∷ vs
set_value (suc i) value (v ∷ vs) = v ∷ set_value i value vs

-- the versions of all writers but t
abbrev pub without : ℕ → List Version → List Version
without t vs = filter (λ v. not (eqb v.0.0 t)) vs
