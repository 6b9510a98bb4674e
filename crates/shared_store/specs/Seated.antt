-- What the log knows by its seat at the front turn.
use Rattle.std.specs.Prelude.{◌≡◌, ℕ, ◌≤◌, Bool, List, [], ◌∷◌, Some}
use Rattle.teb_rules.specs.declared.history.Event.{Event}
use Rattle.teb_rules.specs.Setup.{Store}
use Rattle.turn_lock.specs.declared.view.View.{View}
use Rattle.shared_store.specs.declared.entry.LifeEntry.{LifeEntry}
use Rattle.shared_store.specs.declared.entry.TheConstants.{LOG_SEAT}
use Rattle.shared_store.specs.Stages.{Stage}
use Rattle.shared_store.specs.Holding.{IsKept}

-- the seat with which marks are added, which has at least so many turns
pub record IsLogSeat (least : ℕ) (v : View LifeEntry Stage) : Type 0 where
  pub owner : v.owners ≡ LOG_SEAT ∷ []
  pub turns : least ≤ v.turns

-- what the log keeps of what the seat has seen
pub record IsKeptAt (keep : Store → List Event → ℕ → Type 0) (failed : Bool) (total : ℕ) (v : View LifeEntry Stage) : Type 0 where
  pub kept : (b : Stage) → v.base ≡ Some b → ∥ IsKept keep b failed total v.seen ∥₁
