-- Where a server is, and what it makes of a request and of the end of an epoch.
use Rattle.std.specs.Prelude.{◌≡◌, ℕ, List, [], IsTrue, Result, Ok, Err}
use Rattle.teb_rules.specs.declared.names.Reply.{Reply}
use Rattle.teb_rules.specs.declared.names.Request.{Request}
use Rattle.teb_rules.specs.declared.names.Session.{Session}
use Rattle.teb_rules.specs.declared.history.Event.{Event}
use Rattle.teb_rules.specs.history.Phases.{unfinished}
use Rattle.teb_rules.specs.Answer.{answer}
use Rattle.teb_rules.specs.Epochs.{AreFinalRows, IsDrained, IsUntold}
use Rattle.teb_rules.specs.Setup.{Store}
use Rattle.shared_store.specs.declared.error.UnaskedError.{UnaskedError}
use Rattle.shared_store.specs.declared.server.Obstacle.{Obstacle}
use Rattle.shared_store.specs.declared.server.Obstacle.TheVariants.{Unfinished, Untold}

-- the store that the present epoch began with, and its history
pub record Standing : Type 0 where
  pub store : Store
  pub events : List Event

-- answered as the rules do
pub record IsAnsweredBy (old new : Standing) (s : Session) (q : Request) (r : Reply) : Type 0 where
  pub reply : r ≡ (answer old.store old.events s q).0
  pub store : new.store ≡ old.store
  pub events : new.events ≡ (answer old.store old.events s q).1

abbrev pub IsServed : Standing → Standing → Session → Request → Result Reply UnaskedError → Type 0
IsServed old new s q (Ok r) = IsAnsweredBy old new s q r
IsServed old new s q (Err f) = new ≡ old

-- some transaction is unfinished
pub record HasUnfinished (H : List Event) : Type 0 where
  pub txn : ℕ
  pub is : IsTrue (unfinished H txn)

-- this keeps the epoch from its end
abbrev pub IsObstacle : List Event → Obstacle → Type 0
IsObstacle H Unfinished = HasUnfinished H
IsObstacle H (Untold s) = ((t : ℕ) → ¬ IsTrue (unfinished H t)) × IsUntold H s.0

-- an epoch that was drained, and the next one: the same tree and tables, with the rows that the first left, and nothing has happened
pub record IsBegun (old new : Standing) : Type 0 where
  pub drained : IsDrained old.events
  pub setup : new.store.setup ≡ old.store.setup
  pub tables : new.store.tables ≡ old.store.tables
  pub rows : AreFinalRows old.store old.events new.store.rows
  pub events : new.events ≡ []
