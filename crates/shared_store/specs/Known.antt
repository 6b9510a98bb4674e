-- What the seats of a session know.
use Rattle.std.specs.Prelude.{◌≡◌, ℕ, ◌+◌, ◌*◌, ◌≤◌, [], ◌∷◌, Some}
use Rattle.turn_lock.specs.declared.view.View.{View}
use Rattle.shared_store.specs.declared.entry.LifeEntry.{LifeEntry}
use Rattle.shared_store.specs.declared.kept.Kept.{Kept}
use Rattle.shared_store.specs.declared.session.TheConstants.{MOST_ASKS, MOST_TURNS}
use Rattle.shared_store.specs.Places.{Place}
use Rattle.shared_store.specs.Stages.{Stage}
use Rattle.shared_store.specs.Lives.{IsLegalLife}

-- the seat of session s at the front, which has MOST_TURNS turns, less two for each of its asks. What it has seen is a legal life
pub record Knows (s asks : ℕ) (v : View LifeEntry Stage) : Type 0 where
  pub owner : v.owners ≡ s ∷ []
  pub turns : MOST_TURNS ≤ v.turns + 2 * asks
  pub few : asks ≤ MOST_ASKS
  pub legal : (b : Stage) → v.base ≡ Some b → IsLegalLife b v.seen

-- the seat of session s at the log
pub record KnowsLog (s asks : ℕ) (v : View Kept Place) : Type 0 where
  pub owner : v.owners ≡ s ∷ []
  pub turns : MOST_TURNS ≤ v.turns + 2 * asks

-- a seat that has not taken its turn yet
pub record IsFresh (s : ℕ) (v : View LifeEntry Stage) : Type 0 where
  pub owner : v.owners ≡ s ∷ []
  pub turns : MOST_TURNS ≤ v.turns
  pub seen : v.seen ≡ []

pub record IsFreshLog (s : ℕ) (v : View Kept Place) : Type 0 where
  pub owner : v.owners ≡ s ∷ []
  pub turns : MOST_TURNS ≤ v.turns
