-- A transaction's own events, and the position of the newest of them.
use Rattle.std.specs.Prelude.{◌≡◌, ◌≤◌, ℕ, zero, suc, Bool, false, cond, eqb, Option, Some, None, ℤ, List, [], ◌∷◌, length, filter, reverse}
use Rattle.teb_rules.specs.declared.names.Cell.{Cell}
use Rattle.teb_rules.specs.declared.names.Txn.{Txn}
use Rattle.teb_rules.specs.names.Cells.{same_cell}
use Rattle.teb_rules.specs.declared.history.Event.{Event}
use Rattle.teb_rules.specs.declared.history.Event.TheVariants.{Began, Got, Put, Ready, Done, Gone, Told}
use Rattle.teb_rules.specs.history.Positions.{upto}

-- the transaction that an event is of
abbrev pub event_txn : Event → Txn
event_txn (Began t s k i) = t
event_txn (Got t x w v) = t
event_txn (Put t x v) = t
event_txn (Ready t) = t
event_txn (Done t) = t
event_txn (Gone t c) = t
event_txn (Told t) = t

-- the event is one of t's
abbrev pub is_of : ℕ → Event → Bool
is_of t e = eqb (event_txn e).0 t

-- the value of a Put of x, and of a Got of x, of any transaction
abbrev pub put_in : Cell → Event → Option (Option ℤ)
put_in x (Put t y v) = cond (same_cell y x) (Some v) None
put_in x _ = None

abbrev pub got_in : Cell → Event → Option (Option ℤ)
got_in x (Got t y w v) = cond (same_cell y x) (Some v) None
got_in x _ = None

-- the event is a Got from u
abbrev pub gets_from : ℕ → Event → Bool
gets_from u (Got t y w v) = eqb w.0 u
gets_from u _ = false

-- t's own events, the newest first
unfoldable pub own_events : List Event → ℕ → List Event
own_events H t = filter (is_of t) H

-- one more than the position of t's newest event; 0 if t has none
unfoldable pub own_end : List Event → ℕ → ℕ
own_end [] t = zero
own_end (e ∷ P) t = let n = own_end P t in cond (is_of t e) (suc (length P)) n

-- for each event, the newest first, the end of its transaction's events before it
unfoldable pub links : List Event → List ℕ
links [] = []
links (e ∷ P) = own_end P (event_txn e).0 ∷ links P

-- the newest event and the others of its transaction
unfoldable pub newest_own : List Event → List Event
newest_own [] = []
newest_own (e ∷ P) = own_events (e ∷ P) (event_txn e).0

-- of events with the oldest first: the one before position n and the others of its transaction, the newest first
abbrev pub own_before : List Event → ℕ → List Event
own_before events n = newest_own (upto n (reverse events))

-- the links belong to the events, which have the oldest first, and n is an end among them
pub record IsLinked (events : List Event) (previous : List ℕ) (n : ℕ) : Type 0 where
  pub links : previous ≡ reverse (links (reverse events))
  pub within : n ≤ length events
