-- Histories and positions. A history is a list of events with the newest first: `e ∷ P` is the history P with e after it.
-- Positions count from 0 at the oldest event, so in `e ∷ P` the event e has the position `length P`. An event that has not
-- happened yet has the position `length H`, which is later than every event of H.
use Rattle.std.specs.Prelude.{ℕ, zero, suc, Bool, false, cond, ltb, List, [], ◌∷◌, length}
use Rattle.teb_rules.specs.declared.history.Event.{Event}

-- the history before position i
unfoldable pub upto : ℕ → List Event → List Event
upto i [] = []
upto i (e ∷ P) = let r = upto i P in cond (ltb (length P) i) (e ∷ P) r

-- the position of the first event after which p holds of the history
unfoldable pub first : (List Event → Bool) → List Event → ℕ
first p [] = zero
first p (e ∷ P) = let i = first p P in cond (ltb i (length P)) i (cond (p (e ∷ P)) (length P) (suc (length P)))

-- the position of the last event after which p holds of the history; 0 if there is none
unfoldable pub last : (List Event → Bool) → List Event → ℕ
last p [] = zero
last p (e ∷ P) = let i = last p P in cond (p (e ∷ P)) (length P) i

-- whether the newest event is one that q accepts
abbrev pub newest : (Event → Bool) → List Event → Bool
newest q [] = false
newest q (e ∷ P) = q e

-- the position of the first event that q accepts
unfoldable pub first_event : (Event → Bool) → List Event → ℕ
first_event q H = first (newest q) H

-- whether the event at position i has happened
abbrev pub came : List Event → ℕ → Bool
came H i = ltb i (length H)
