-- The order of versions, which of them a transaction sees, and what it reads.
use Rattle.std.specs.Prelude.{ℕ, zero, suc, Bool, true, false, cond, not, ◌&&◌, ◌||◌, eqb, ltb, List, filter, find, Option, None, unwrap_or, ℤ}
use Rattle.std.specs.List.{list_all}
use Rattle.teb_rules.specs.declared.names.Cell.{Cell}
use Rattle.teb_rules.specs.declared.names.ControlKind.{ControlKind}
use Rattle.teb_rules.specs.declared.names.ControlKind.TheVariants.{Locks, Pipeline, Timestamp, Snapshot}
use Rattle.teb_rules.specs.declared.history.Event.{Event}
use Rattle.teb_rules.specs.history.Phases.{txns, committed, aborted}
use Rattle.teb_rules.specs.history.Accesses.{put_at, wrote, last_put}
use Rattle.teb_rules.specs.Setup.{Setup}
use Rattle.teb_rules.specs.names.Rows.{row_of}
use Rattle.teb_rules.specs.Tree.{row, is_timestamp, meet}
use Rattle.teb_rules.specs.Steps.{passed, rank_of_table}
use Rattle.teb_rules.specs.Batches.{start, close}

-- u's version of x is before w's, for two that meet at n
unfoldable pub orders : Setup → List Event → ℕ → Cell → ℕ → ℕ → Bool
orders S H n x u w = cond (is_timestamp (row S.tree n).control) (ltb (start S H n u) (start S H n w)) (ltb (put_at H u x) (put_at H w x))

-- the same for any two versions; 0 writes the starting row
unfoldable pub precedes : Setup → List Event → Cell → ℕ → ℕ → Bool
precedes S H x u zero = false
precedes S H x zero (suc w) = true
precedes S H x (suc u) (suc w) = orders S H (meet S H (suc u) (suc w)) x (suc u) (suc w)

-- t sees w's version of x, for two that meet at n
unfoldable pub sees_by : ControlKind → Setup → List Event → ℕ → Cell → ℕ → ℕ → Bool
sees_by Locks S H n x t w = committed H w
sees_by Pipeline S H n x t w = committed H w || passed S H n w (rank_of_table S n x.table.0)
sees_by Timestamp S H n x t w = ltb (start S H n w) (start S H n t)
sees_by Snapshot S H n x t w = ltb (close S H n w) (start S H n t)

-- the same at the node where they meet, for a w that has put x and is not aborted
unfoldable pub sees : Setup → List Event → Cell → ℕ → ℕ → Bool
sees S H x t w = not (eqb w t) && wrote H w x && not (aborted H w) && sees_by (row S.tree (meet S H t w)).control S H (meet S H t w) x t w

-- the one of the writers ws that no other of them follows
unfoldable pub latest : Setup → List Event → Cell → List ℕ → Option ℕ
latest S H x ws = find (λ w. list_all (λ v. not (precedes S H x w v)) ws) ws

-- the value that a writer left; None if it left none, or deleted the row
abbrev pub value_left : List Event → ℕ → Cell → Option ℤ
value_left H w x = unwrap_or (last_put H w x) None

-- whose version of x t reads: its own, else the last one that it sees; 0 if that is the starting row
unfoldable pub source : Setup → List Event → ℕ → Cell → ℕ
source S H t x = cond (wrote H t x) t (unwrap_or (latest S H x (filter (sees S H x t) (txns H))) 0)

-- the version of x by w; R are the starting rows
abbrev pub version : List (Cell × ℤ) → List Event → Cell → ℕ → Option ℤ
version R H x zero = row_of R x
version R H x (suc w) = value_left H (suc w) x

-- what t reads of x: the writer, and the value
unfoldable pub read : Setup → List (Cell × ℤ) → List Event → ℕ → Cell → ℕ × Option ℤ
read S R H t x = (source S H t x, version R H x (source S H t x))
