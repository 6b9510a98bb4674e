-- Whose turn it is, by its place among the seats.
use Rattle.std.specs.Prelude.{◌≡◌, ℕ, ◌+◌, ◌<◌, ◌≤◌, List, ◌++◌, get_or, Option, Some, None, slice_get, take, drop}
use Rattle.std.specs.List.{AllWithin}
use Rattle.teb_rules.specs.declared.names.Request.{Request}
use Rattle.teb_rules.specs.declared.history.Event.{Event}
use Rattle.teb_rules.specs.Driver.{Seat, Turn, turn}
use Rattle.script_runner.specs.declared.turns.ring.Asked.{Asked}
use Rattle.script_runner.specs.turns.Seats.{round_from}

-- the first of the seats from one place up to another that f offers something
pub record IsFirstAt (f : Seat → Option Request) (ws : List Seat) (from end : ℕ) (a : Asked) : Type 0 where
  pub least : from ≤ a.index
  pub within : a.index < end
  pub none_before : AllWithin (λ w. f w ≡ None) ws from a.index
  pub session : (d : Seat) → a.session ≡ (get_or ws a.index d).session
  pub request : (d : Seat) → f (get_or ws a.index d) ≡ Some a.request.now

abbrev pub IsFirst : (Seat → Option Request) → List Seat → ℕ → ℕ → Option Asked → Type 0
IsFirst f ws from end None = AllWithin (λ w. f w ≡ None) ws from end
IsFirst f ws from end (Some a) = IsFirstAt f ws from end a

-- the turn of a round that begins at the n-th seat
pub record IsTurnOf (H : List Event) (n : ℕ) (ws : List Seat) (a : Asked) : Type 0 where
  pub of : Turn
  pub is : turn H (round_from n ws) ≡ Some of
  pub seat : slice_get ws a.index ≡ Some of.seat
  pub session : a.session ≡ of.seat.session
  pub request : a.request.now ≡ of.request
  pub others : of.behind ++ of.passed ≡ drop (a.index + 1) ws ++ take a.index ws

abbrev pub IsTurn : List Event → ℕ → List Seat → Option Asked → Type 0
IsTurn H n ws None = turn H (round_from n ws) ≡ None
IsTurn H n ws (Some a) = IsTurnOf H n ws a
