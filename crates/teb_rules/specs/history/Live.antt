-- The transactions that are live: unfinished, or aborted by a cascade with a session that was not told of it.
use Rattle.std.specs.Prelude.{ℕ, Bool, cond, not, ◌&&◌, ◌||◌, ltb, leb, eqb, Option, Some, None, List, [], ◌∷◌, filter}
use Rattle.teb_rules.specs.declared.names.Txn.{Txn}
use Rattle.teb_rules.specs.declared.history.Event.{Event}
use Rattle.teb_rules.specs.history.Phases.{begun_count, session_of, unfinished, untold}
use Rattle.teb_rules.specs.history.Ascending.{put_by}
use Rattle.teb_rules.specs.history.OwnEvents.{event_txn}

-- a transaction's number
abbrev pub number_of : Txn → ℕ
number_of t = t.0

-- the transactions that have an event, in ascending number, each once
unfoldable pub mentioned : List Event → List Txn
mentioned [] = []
mentioned (e ∷ P) = put_by number_of (event_txn e) (mentioned P)

-- t is unfinished, or its session was not told of its abort
abbrev pub is_live : List Event → ℕ → Bool
is_live H t = unfinished H t || untold H t

-- those that are live
abbrev pub live_txns : List Event → List Txn
live_txns H = filter (λ t. is_live H t.0) (mentioned H)

-- ascending transactions with t inserted, or removed, or unchanged for None
abbrev pub kept_by : Option Bool → Txn → List Txn → List Txn
kept_by None t ts = ts
kept_by (Some b) t ts = cond b (put_by number_of t ts) (filter (λ u. not (eqb u.0 t.0)) ts)

-- t is one of the numbers from 1 on of those that have begun
abbrev pub is_numbered : List Event → Txn → Bool
is_numbered H t = ltb 0 t.0 && leb t.0 (begun_count H)

-- and s began it
abbrev pub is_begun_by : List Event → ℕ → Txn → Bool
is_begun_by H s t = is_numbered H t && eqb (session_of H t.0) s
