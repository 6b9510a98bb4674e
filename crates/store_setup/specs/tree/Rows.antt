-- Tests on rows.
use Rattle.std.specs.Prelude.{ℕ, Bool, ◌&&◌, ◌||◌, not, eqb, List}
use Rattle.std.specs.List.{list_any}
use Rattle.teb_rules.specs.declared.names.ControlKind.{ControlKind}
use Rattle.teb_rules.specs.declared.names.ControlKind.TheVariants.{Locks, Pipeline, Timestamp, Snapshot}
use Rattle.teb_rules.specs.Setup.{NodeRow, among}
use Rattle.teb_rules.specs.Tree.{row, is_locks, is_pipeline, is_timestamp, is_snapshot}

-- c is of this kind
abbrev pub is_kind : ControlKind → ControlKind → Bool
is_kind Locks c = is_locks c
is_kind Pipeline c = is_pipeline c
is_kind Timestamp c = is_timestamp c
is_kind Snapshot c = is_snapshot c

-- two lists have a number in common
abbrev pub shares : List ℕ → List ℕ → Bool
shares js ks = list_any (λ k. among k js) ks

-- a type is in both rows, for the same part or with different numbers of parts
abbrev pub clash : NodeRow → NodeRow → Bool
clash q r = shares q.types r.types && (eqb q.part r.part || not (eqb q.parts r.parts))

-- one of these nodes, other than n, is of this kind
abbrev pub any_other : List NodeRow → ℕ → ControlKind → List ℕ → Bool
any_other T n control ms = list_any (λ m. not (eqb m n) && is_kind control (row T m).control) ms
