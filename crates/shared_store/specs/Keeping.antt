-- What a log turn sees of the log behind it.
use Rattle.std.specs.Prelude.{◌≡◌, ℕ, List, Some}
use Rattle.turn_lock.specs.Seats.{base_in, view_of, IsOf}
use Rattle.turn_lock.specs.declared.turn.Turn.{Turn}
use Rattle.shared_store.specs.declared.entry.LifeEntry.{LifeEntry}
use Rattle.shared_store.specs.declared.hosted.Hosted.{Hosted}
use Rattle.shared_store.specs.declared.kept.Kept.{Kept}
use Rattle.shared_store.specs.declared.server.EpochServer.{Ghosts}
use Rattle.shared_store.specs.declared.keeper.Keeper.{Keeper}
use Rattle.shared_store.specs.Hosting.{first_of}
use Rattle.shared_store.specs.Places.{Place}
use Rattle.shared_store.specs.Stages.{Stage}

module _ {V L B : Type 0} {g : Ghosts V L B} where
  abbrev pub tells_in : Keeper V L B g → List Kept
  tells_in k = k.entries.items

  -- it has no notes
  abbrev pub tell_note : Keeper V L B g → ℕ → ℕ
  tell_note k i = 0

  abbrev pub place_of : Keeper V L B g → Place
  place_of k = record { table = k.seat.seat.table_id; first = (view_of k.seat).base }

  -- its seat is one of this turn at the front
  abbrev pub IsLogOf : Turn (Hosted V L B g) LifeEntry Stage → Keeper V L B g → Type 0
  IsLogOf t k = IsOf t k.seat × ((view_of k.seat).base ≡ Some (base_in first_of t))
