-- Histories in which a transaction that read from an unfinished one is unfinished.
use Rattle.std.specs.Prelude.{ℕ, ◌<◌, List, IsTrue}
use Rattle.teb_rules.specs.declared.history.Event.{Event}
use Rattle.teb_rules.specs.history.Phases.{committed}
use Rattle.teb_rules.specs.history.Accesses.{read_from}
use Rattle.teb_rules.specs.laws.Lawful.{Settled}

-- a transaction that is not aborted read from none that is, and a committed transaction read from committed ones
pub record IsRecoverable (H : List Event) : Type 0 where
  pub settled : Settled H
  pub committed : (u w : ℕ) → IsTrue (committed H u) → IsTrue (read_from H u w) → 0 < w → IsTrue (committed H w)
