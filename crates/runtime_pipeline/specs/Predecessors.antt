-- Which transactions are ahead of which at a node, and what is kept of it.
use Rattle.std.specs.Prelude.{◌≡◌, ℕ, ◌+◌, ◌*◌, ◌≤◌, Bool, cond, not, ◌&&◌, eqb, List, [], ◌∷◌, map, filter, length, Vec, vec_len, vec_capacity, IsFalse}
use Rattle.std.specs.declared.alloc.Global.{Global}
use Rattle.teb_rules.specs.declared.names.Txn.{Txn}
use Rattle.teb_rules.specs.declared.history.Event.{Event}
use Rattle.teb_rules.specs.history.Phases.{txns, begun, committed, aborted, unfinished}
use Rattle.teb_rules.specs.history.Ascending.{put_by}
use Rattle.teb_rules.specs.history.Live.{number_of}
use Rattle.teb_rules.specs.Setup.{Setup}
use Rattle.teb_rules.specs.Tree.{meets}
use Rattle.teb_rules.specs.Controls.{earlier}
use Rattle.hold_book.specs.declared.Hold.{Hold}
use Rattle.dependency_book.specs.Dependencies.{has}
use Rattle.sorted_multimap.specs.Multimap.{values_of}
use Rattle.sorted_multimap.specs.Keys.{txn_cmp}

-- the transaction with a number
abbrev pub numbered : ℕ → Txn
numbered u = record { 0 = u }

-- u is unfinished, meets t at n, and is earlier than t
abbrev pub is_ahead : Setup → List Event → ℕ → ℕ → ℕ → Bool
is_ahead S H n t u = unfinished H u && meets S H n t u && earlier H u t

-- those that are ahead of t at n, in ascending number
abbrev pub before_in : Setup → List Event → ℕ → ℕ → List Txn
before_in S H n t = map numbered (filter (is_ahead S H n t) (txns H))

-- the unfinished transactions, in ascending number
abbrev pub unfinished_in : List Event → List Txn
unfinished_in H = map numbered (filter (unfinished H) (txns H))

-- what contracts see: lists of transactions, each value beside the one whose list it is in; how many are unfinished; and for how many events there is room
pub record Kept : Type 0 where
  pub lists : List (Txn × Txn)
  pub unfinished : ℕ
  pub spare : ℕ

abbrev pub list_of : Kept → Txn → List Txn
list_of k t = values_of txn_cmp k.lists t

-- no transaction has committed or aborted without having begun
abbrev pub EndsFollow : List Event → Type 0
EndsFollow H = (u : ℕ) → IsFalse (begun H u) → IsFalse (committed H u) × IsFalse (aborted H u)

-- the list of each unfinished transaction has those that are ahead of it, every other list is empty, and no more transactions are
-- unfinished than are counted
pub record PredecessorsOf (k : Kept) (S : Setup) (H : List Event) (n : ℕ) : Type 0 where
  pub ends : EndsFollow H
  pub counted : length (unfinished_in H) ≤ k.unfinished
  pub ahead : (t : Txn) → list_of k t ≡ cond (unfinished H t.0) (before_in S H n t.0) []

-- a list with the transactions of those holds that pass
abbrev pub joined : (Hold → Bool) → List Hold → List Txn → List Txn
joined p [] us = us
joined p (h ∷ hs) us = joined p hs (cond (p h) (put_by number_of h.txn us) us)

-- a list without t
abbrev pub without : ℕ → List Txn → List Txn
without t us = filter (λ u. not (eqb u.0 t)) us

-- a transaction that is not among some has an empty list
abbrev pub AllBehind : List (Txn × Txn) → List Txn → Type 0
AllBehind lists behind = (v : Txn) → IsFalse (has v behind) → values_of txn_cmp lists v ≡ []

-- there is room for `spare` events, while at most `most` transactions are unfinished: each event may put that many into a list, and make
-- one list not empty
pub record HasRoom (room : ℕ) (behind : Vec Txn Global) (open_txns spare most : ℕ) : Type 0 where
  pub lists : spare * most ≤ room
  pub few : open_txns + spare ≤ most
  pub places : vec_len behind + spare ≤ vec_capacity behind
