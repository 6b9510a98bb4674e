-- What the last writing adds to a life.
use Rattle.std.specs.Prelude.{◌≡◌, ℕ, ◌≤◌, Bool, false, List, [], ◌++◌, All}
use Rattle.teb_rules.specs.declared.history.Event.{Event}
use Rattle.teb_rules.specs.Setup.{Store}
use Rattle.shared_store.specs.declared.entry.LifeEntry.{LifeEntry}
use Rattle.shared_store.specs.declared.entry.TheConstants.{LOG_SEAT}
use Rattle.shared_store.specs.Holding.{IsKept}
use Rattle.shared_store.specs.Lives.{LeadsTo, calls_of, has_stop, owner_of}
use Rattle.shared_store.specs.Served.{Standing}
use Rattle.shared_store.specs.Stages.{Stage}

-- the life leads to where the server is
pub record LeadsToServer (first : Stage) (x : Standing) (life : List LifeEntry) : Type 0 where
  pub stage : Stage
  pub leads : LeadsTo first life stage
  pub server : stage.standing ≡ x

-- entries of the log's seat are added. None of them is a call, and none tells of a failure of the log
pub record AddsNoCalls (old new : List LifeEntry) : Type 0 where
  pub more : List LifeEntry
  pub is : new ≡ old ++ more
  pub calls : (n : ℕ) → calls_of n more ≡ []
  pub owned : All (λ e. owner_of e ≡ LOG_SEAT) more
  pub runs : has_stop more ≡ false

-- the log keeps the first `least` commits of the life, or more
pub record IsKeptAfter (keep : Store → List Event → ℕ → Type 0) (first : Stage) (failed : Bool) (least : ℕ) (life : List LifeEntry) : Type 0 where
  pub total : ℕ
  pub kept : ∥ IsKept keep first failed total life ∥₁
  pub enough : least ≤ total
