-- What is known when a Commit is asked for.
use Rattle.std.specs.Prelude.{◌≡◌, ℕ, List, IsTrue}
use Rattle.teb_rules.specs.declared.names.Txn.{Txn}
use Rattle.teb_rules.specs.declared.history.Event.{Event}
use Rattle.teb_rules.specs.history.Phases.{unfinished}
use Rattle.teb_rules.specs.Setup.{Setup}
use Rattle.teb_rules.specs.Accepted.{IsSound}
use Rattle.teb_rules.specs.laws.Lawful.{Lawful}
use Rattle.phase_api.specs.declared.facts.Facts.{Facts}
use Rattle.phase_api.specs.Standing.{StandAll}
use Rattle.phase_api.specs.FactsView.{setup_of, events_of}
use Rattle.dependency_book.specs.Dependencies.{all_sources}
use Rattle.dependency_book.specs.Orderly.{Orderly}

-- the setup is sound and the history lawful, each control stands for them, and t is unfinished and read from the sources
pub record IsAsked {K : Type 0} (node_number : K → ℕ) (stands : K → Setup → List Event → Type 0) (all : List K) (sources : List Txn) (f : Facts) (t : ℕ) : Type 0 where
  pub tree : IsSound (setup_of f)
  pub lawful : Lawful (setup_of f) (events_of f)
  pub controls : StandAll node_number stands all (setup_of f) (events_of f)
  pub orderly : Orderly (events_of f)
  pub read_from : sources ≡ all_sources (events_of f) (record { 0 = t })
  pub unfinished : IsTrue (unfinished (events_of f) t)
