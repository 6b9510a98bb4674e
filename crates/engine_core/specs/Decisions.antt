-- A decision, and the answer that it carries out.
use Rattle.std.specs.Prelude.{◌≡◌, ◌<◌, ℕ, List, ◌∷◌, Option, Some, None, unwrap_or, cond, ℤ, ◌+ℤ◌}
use Rattle.teb_rules.specs.declared.names.TheConstants.{MOST_TXNS}
use Rattle.teb_rules.specs.declared.names.Cause.TheVariants.{Asked}
use Rattle.teb_rules.specs.declared.names.Reply.TheVariants as reply
use Rattle.teb_rules.specs.declared.names.Cell.{Cell}
use Rattle.teb_rules.specs.declared.names.Refusal.{Refusal}
use Rattle.teb_rules.specs.declared.history.Event.{Event}
use Rattle.teb_rules.specs.declared.history.Event.TheVariants.{Began, Told}
use Rattle.teb_rules.specs.declared.history.Event.TheVariants as event
use Rattle.teb_rules.specs.history.Phases.{begun_count, cause_of}
use Rattle.teb_rules.specs.Setup.{Setup, Store}
use Rattle.teb_rules.specs.Stops.{begin_stop}
use Rattle.teb_rules.specs.declared.Stop.{Stop}
use Rattle.teb_rules.specs.declared.Stop.TheVariants as stop
use Rattle.teb_rules.specs.Cascade.{txn}
use Rattle.teb_rules.specs.Answer.{Answered, cells_from, read_all, got_values, broken_off, refuse, or_stop, or_refused, fits}
use Rattle.version_chain.specs.Lists.{Version}
use Rattle.short_reply.specs.ShortReplies.{full_reply}
use Rattle.engine_core.specs.Cells.{HasKeys}
use Rattle.engine_core.specs.Keeping.{IsPlaced}
use Rattle.engine_core.specs.declared.decision.Decision.{Decision}
use Rattle.engine_core.specs.declared.decision.Decision.TheVariants.{Answer, Grant, Put, Scan, Fall}

-- the reply and the history after a decision
abbrev pub carried : Store → List Event → Decision → Answered
carried X H (Answer r) = (full_reply r, H)
carried X H (Grant r e) = (full_reply r, e ∷ H)
carried X H (Put t x v p) = (reply.Done, event.Put t x v ∷ H)
carried X H (Scan t x n) = got_values (read_all X H t.0 (cells_from x n))
carried X H (Fall t c) = broken_off H t.0 c

-- a Began is granted only if fewer than MOST_TXNS transactions have begun, and no node on the way to its leaf holds it back
abbrev pub MayBegin : Setup → List Event → Event → Type 0
MayBegin S H (Began t s k i) = (begun_count H < MOST_TXNS) × (begin_stop S H (record { kind = k; instance = i }) ≡ stop.Go)
MayBegin S H _ = Unit {0}

-- the event is no Put
abbrev pub IsNoPut : Event → Type 0
IsNoPut (event.Put t x v) = ⊥
IsNoPut _ = Unit {0}

-- a Put has its version's place in the chain; at most 16 cells are read, each of which has a key
abbrev pub IsBounded : (Cell → List Version) → Setup → List Event → Decision → Type 0
IsBounded L S H (Grant r e) = MayBegin S H e × IsNoPut e
IsBounded L S H (Put t x v p) = IsPlaced S H L t.0 x p
IsBounded L S H (Scan t x n) = HasKeys x n
IsBounded L S H _ = Unit {0}

-- the decision is no scan
abbrev pub IsShort : Decision → Type 0
IsShort (Scan t x n) = ⊥
IsShort _ = Unit {0}

-- the refusal of an access, if there is one
abbrev pub IsRefusal : Store → List Event → ℕ → Cell → Option Refusal → Type 0
IsRefusal X H t x None = (granted : Answered) → or_refused X H t x granted ≡ granted
IsRefusal X H t x (Some r) = (granted : Answered) → or_refused X H t x granted ≡ refuse H r

-- the decision on a request of t that stops
abbrev pub IsStopped : Store → List Event → ℕ → Stop → Decision → Type 0
IsStopped X H t s d = ((granted : Answered) → carried X H d ≡ or_stop H t s granted) × ((L : Cell → List Version) → IsBounded L X.setup H d)

-- the sum of two numbers, if it fits
abbrev pub sum_of : ℤ → ℤ → Option ℤ
sum_of b v = cond (fits (b +ℤ v)) (Some (b +ℤ v)) None

-- the notice to the session of an aborted t
abbrev pub told : List Event → ℕ → Answered
told H t = (reply.Aborted (unwrap_or (cause_of H t) Asked), Told (txn t) ∷ H)
