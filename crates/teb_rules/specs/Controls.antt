-- What each control says: its waits, its breaks, its validation and its gate.
use Rattle.std.specs.Prelude.{ℕ, Bool, true, false, not, ◌&&◌, ◌||◌, eqb, ltb, List, [], ◌∷◌, filter, find, flat_map, map, Option, Some, None}
use Rattle.teb_rules.specs.declared.names.Cell.{Cell}
use Rattle.teb_rules.specs.declared.Broken.TheVariants.{Late, First, Pivot}
use Rattle.teb_rules.specs.declared.names.ControlKind.{ControlKind}
use Rattle.teb_rules.specs.declared.names.ControlKind.TheVariants.{Locks, Pipeline, Timestamp, Snapshot}
use Rattle.teb_rules.specs.declared.history.Event.{Event}
use Rattle.teb_rules.specs.declared.history.Event.TheVariants.{Got, Put}
use Rattle.teb_rules.specs.history.Phases.{txns, kind_of, unfinished, prepared, committed, aborted}
use Rattle.teb_rules.specs.history.Accesses.{wrote, got}
use Rattle.teb_rules.specs.names.Cells.{same_cell}
use Rattle.teb_rules.specs.Setup.{Setup}
use Rattle.teb_rules.specs.Tree.{row, meets}
use Rattle.teb_rules.specs.Steps.{passed, rank_of_table, rank_of_step, cursor}
use Rattle.teb_rules.specs.Batches.{start, close, concurrent, one_batch}
use Rattle.teb_rules.specs.Versions.{precedes}
use Rattle.teb_rules.specs.declared.Verdict.{Verdict}
use Rattle.teb_rules.specs.declared.Verdict.TheVariants.{Go, Break}
use Rattle.teb_rules.specs.Verdicts.{wait_for, break_for, or_else}

-- some access of u precedes a conflicting access of t
unfoldable pub earlier : List Event → ℕ → ℕ → Bool
earlier [] u t = false
earlier (Got s x w v ∷ P) u t = (eqb s.0 t && wrote P u x) || earlier P u t
earlier (Put s x v ∷ P) u t = (eqb s.0 t && (wrote P u x || got P u x)) || earlier P u t
earlier (_ ∷ P) u t = earlier P u t

-- an unfinished u that meets t at n is in the way of t's read of x if it has put x, and of t's write if it has put or read x
unfoldable pub blocks : Setup → List Event → ℕ → ℕ → Cell → Bool → ℕ → Bool
blocks S H n t x write u = unfinished H u && meets S H n t u && (wrote H u x || (write && got H u x))

-- an unfinished u that meets t at n and is earlier than t is in the way of t's entry to a step with the rank of x
unfoldable pub entry_blocks : Setup → List Event → ℕ → ℕ → Cell → ℕ → Bool
entry_blocks S H n t x u =
    let k = rank_of_table S n x.table.0 in
    ltb (rank_of_step S n (kind_of H t) (cursor S H t)) k && unfinished H u && meets S H n t u && earlier H u t && not (passed S H n u k)

-- u, later than t at n, has read x from the starting row, from t, or from a version before t's
unfoldable pub has_read_before : Setup → List Event → List Event → Cell → ℕ → ℕ → Bool
has_read_before S H [] x t u = false
has_read_before S H (Got s y w v ∷ P) x t u = (eqb s.0 u && same_cell y x && (eqb w.0 t || precedes S H x w.0 t)) || has_read_before S H P x t u
has_read_before S H (_ ∷ P) x t u = has_read_before S H P x t u

-- a write of x by t is too late: u has read x already
unfoldable pub is_late : Setup → List Event → ℕ → ℕ → Cell → ℕ → Bool
is_late S H n t x u = meets S H n t u && not (aborted H u) && ltb (start S H n t) (start S H n u) && has_read_before S H H x t u

-- u committed a Put of x first: not before t's batch started
unfoldable pub is_first : Setup → List Event → ℕ → ℕ → Cell → ℕ → Bool
is_first S H n t x u = meets S H n t u && committed H u && wrote H u x && not (ltb (close S H n u) (start S H n t))

-- the verdict of node n on an access of x by t
unfoldable pub on_access : ControlKind → Setup → List Event → ℕ → ℕ → Cell → Bool → Verdict
on_access Locks S H n t x write = wait_for (find (blocks S H n t x write) (txns H))
on_access Pipeline S H n t x write = or_else (wait_for (find (entry_blocks S H n t x) (txns H)))
    (wait_for (find (λ u. blocks S H n t x write u && not (passed S H n u (rank_of_table S n x.table.0))) (txns H)))
on_access Timestamp S H n t x false = Go
on_access Timestamp S H n t x true = break_for (find (is_late S H n t x) (txns H)) (λ u. Late (record { 0 = u }) x)
on_access Snapshot S H n t x false = Go
on_access Snapshot S H n t x true = or_else (break_for (find (is_first S H n t x) (txns H)) (λ u. First (record { 0 = u }) x))
    (wait_for (find (λ u. unfinished H u && meets S H n t u && wrote H u x) (txns H)))

-- b's version of some cell is after the version that a read
unfoldable pub reads_past : Setup → List Event → List Event → ℕ → ℕ → Bool
reads_past S H [] a b = false
reads_past S H (Got s x w v ∷ P) a b = (eqb s.0 a && wrote H b x && precedes S H x w.0 b) || reads_past S H P a b
reads_past S H (_ ∷ P) a b = reads_past S H P a b

-- an edge from a reader to a concurrent writer of a later version
unfoldable pub edge : Setup → List Event → ℕ → ℕ → ℕ → Bool
edge S H n a b = meets S H n a b && concurrent S H n a b && reads_past S H H a b

-- all edges among G, in ascending order
unfoldable pub edges : Setup → List Event → ℕ → List ℕ → List (ℕ × ℕ)
edges S H n G = flat_map (λ a. map (λ b. (a, b)) (filter (edge S H n a) G)) G

-- all pairs of edges, in ascending order
abbrev pub quads : List (ℕ × ℕ) → List ((ℕ × ℕ) × (ℕ × ℕ))
quads es = flat_map (λ e. map (λ f. (e, f)) es) es

abbrev pub pivot_break : Option ((ℕ × ℕ) × (ℕ × ℕ)) → Verdict
pivot_break None = Go
pivot_break (Some q) = Break (Pivot (record { 0 = q.0.0 }) (record { 0 = q.0.1 }) (record { 0 = q.1.0 }) (record { 0 = q.1.1 }))

-- t with all prepared and committed transactions
unfoldable pub at_stake : List Event → ℕ → List ℕ
at_stake H t = filter (λ u. eqb u t || prepared H u || committed H u) (txns H)

-- the verdict of node n when t validates: a pivot is two edges, into a batch and out of it
unfoldable pub validate : ControlKind → Setup → List Event → ℕ → ℕ → Verdict
validate Snapshot S H n t = pivot_break (find (λ q. one_batch S H n q.0.1 q.1.0) (quads (edges S H n (at_stake H t))))
validate _ S H n t = Go

-- an unfinished u holds t back at the gate of n
unfoldable pub gate : ControlKind → Setup → List Event → ℕ → ℕ → ℕ → Bool
gate Pipeline S H n t u = unfinished H u && meets S H n t u && earlier H u t
gate Timestamp S H n t u = (row S.tree n).ordered && unfinished H u && meets S H n t u && ltb (start S H n u) (start S H n t)
gate _ S H n t u = false
