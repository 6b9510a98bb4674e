-- What is told of a store that was closed.
use Rattle.std.specs.Prelude.{ℕ, ◌≤◌, Bool, List, All}
use Rattle.teb_rules.specs.declared.history.Event.{Event}
use Rattle.teb_rules.specs.Setup.{Store}
use Rattle.shared_store.specs.declared.entry.LifeEntry.{LifeEntry}
use Rattle.shared_store.specs.declared.server.EpochServer.{Ghosts}
use Rattle.shared_store.specs.declared.session.StoreSession.{StoreSession}
use Rattle.shared_store.specs.Holding.{IsKept}
use Rattle.shared_store.specs.Sharing.{told}
use Rattle.shared_store.specs.Stages.{Stage}

-- the log keeps at least as many of the first commits of the life as any of these sessions was told
pub record IsKeptToTheEnd {V L B : Type 0} {g : Ghosts V L B} (keep : Store → List Event → ℕ → Type 0) (first : Stage) (failed : Bool) (life : List LifeEntry)
    (sessions : List (StoreSession V L B g)) : Type 0 where
  pub total : ℕ
  pub kept : ∥ IsKept keep first failed total life ∥₁
  pub told_less : All (λ p. told p ≤ total) sessions
