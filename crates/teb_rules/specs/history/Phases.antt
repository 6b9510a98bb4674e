-- The phase of each transaction (begun, prepared, committed or aborted), and which transaction a session holds.
use Rattle.std.specs.Prelude.{ℕ, zero, suc, Bool, true, false, cond, not, ◌&&◌, ◌||◌, eqb, List, [], ◌∷◌, ◌++◌, find, Option, Some, None}
use Rattle.teb_rules.specs.declared.names.Spot.{Spot}
use Rattle.teb_rules.specs.declared.names.Cause.{Cause}
use Rattle.teb_rules.specs.declared.names.Cause.TheVariants.{After}
use Rattle.teb_rules.specs.declared.history.Event.{Event}
use Rattle.teb_rules.specs.declared.history.Event.TheVariants.{Began, Ready, Done, Gone, Told}
use Rattle.teb_rules.specs.history.Positions.{first_event, came}

-- the event is t's Began, Ready, Done, Gone or Told
abbrev pub is_began : ℕ → Event → Bool
is_began t (Began u s k i) = eqb u.0 t
is_began t _ = false

abbrev pub is_ready : ℕ → Event → Bool
is_ready t (Ready u) = eqb u.0 t
is_ready t _ = false

abbrev pub is_done : ℕ → Event → Bool
is_done t (Done u) = eqb u.0 t
is_done t _ = false

abbrev pub is_gone : ℕ → Event → Bool
is_gone t (Gone u c) = eqb u.0 t
is_gone t _ = false

abbrev pub is_told : ℕ → Event → Bool
is_told t (Told u) = eqb u.0 t
is_told t _ = false

-- the position of that event
unfoldable pub began_at : List Event → ℕ → ℕ
began_at H t = first_event (is_began t) H

unfoldable pub ready_at : List Event → ℕ → ℕ
ready_at H t = first_event (is_ready t) H

unfoldable pub done_at : List Event → ℕ → ℕ
done_at H t = first_event (is_done t) H

unfoldable pub gone_at : List Event → ℕ → ℕ
gone_at H t = first_event (is_gone t) H

unfoldable pub told_at : List Event → ℕ → ℕ
told_at H t = first_event (is_told t) H

-- t's phase
unfoldable pub begun : List Event → ℕ → Bool
begun H t = came H (began_at H t)

unfoldable pub committed : List Event → ℕ → Bool
committed H t = came H (done_at H t)

unfoldable pub aborted : List Event → ℕ → Bool
aborted H t = came H (gone_at H t)

unfoldable pub unfinished : List Event → ℕ → Bool
unfinished H t = begun H t && not (committed H t) && not (aborted H t)

unfoldable pub prepared : List Event → ℕ → Bool
prepared H t = unfinished H t && came H (ready_at H t)

-- how many transactions have begun; they are numbered from 1
unfoldable pub begun_count : List Event → ℕ
begun_count [] = zero
begun_count (Began t s k i ∷ P) = suc (begun_count P)
begun_count (_ ∷ P) = begun_count P

-- 1, 2, .. up to n
unfoldable pub numbers : ℕ → List ℕ
numbers zero = []
numbers (suc n) = numbers n ++ suc n ∷ []

-- the transactions that have begun, in ascending number
unfoldable pub txns : List Event → List ℕ
txns H = numbers (begun_count H)

-- the type and the instance with which t began
unfoldable pub spot_of : List Event → ℕ → Spot
spot_of [] t = record { kind = record { 0 = 255 }; instance = 0 }
spot_of (Began u s k i ∷ P) t = let r = spot_of P t in cond (eqb u.0 t) (record { kind = k; instance = i }) r
spot_of (_ ∷ P) t = spot_of P t

-- the type alone
abbrev pub kind_of : List Event → ℕ → ℕ
kind_of H t = (spot_of H t).kind.0

-- the session that began t
unfoldable pub session_of : List Event → ℕ → ℕ
session_of [] t = 0
session_of (Began u s k i ∷ P) t = let r = session_of P t in cond (eqb u.0 t) s.0 r
session_of (_ ∷ P) t = session_of P t

-- the cause of t's abort
unfoldable pub cause_of : List Event → ℕ → Option Cause
cause_of [] t = None
cause_of (Gone u c ∷ P) t = let r = cause_of P t in cond (eqb u.0 t) (Some c) r
cause_of (_ ∷ P) t = cause_of P t

-- an abort that came by a cascade
abbrev pub is_after : Option Cause → Bool
is_after (Some (After u)) = true
is_after _ = false

-- t was aborted by a cascade, and its session was not told of it yet
unfoldable pub untold : List Event → ℕ → Bool
untold H t = is_after (cause_of H t) && not (came H (told_at H t))

-- the transaction that session s holds
unfoldable pub held : List Event → ℕ → Option ℕ
held H s = find (λ t. eqb (session_of H t) s && (unfinished H t || untold H t)) (txns H)
