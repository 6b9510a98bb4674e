-- Committed transactions are typed.
use Rattle.std.proofs.Common.{◌≡◌, ℕ, ◌<◌, true, arith, length}
use Rattle.teb_rules.specs.history.Phases.{began_at, committed}
use Rattle.teb_rules.specs.laws.Lawful.{Lawful}
use Rattle.teb_rules.proofs.lemmas.laws.Ranks.{commits}
use Rattle.teb_rules.proofs.lemmas.laws.Serial.{commits_from}
use Rattle.teb_rules.proofs.lemmas.laws.Timeline.{kind-lt}
use Rattle.phase_api.specs.declared.facts.Facts.{Facts}
use Rattle.phase_api.specs.FactsView.{setup_of, events_of, IsTyped}
use Rattle.serial_order.proofs.Walks.{begun_from}

pub committed_typed : (f : Facts) (t : ℕ) → Lawful (setup_of f) (events_of f) → committed (events_of f) t ≡ true → IsTyped f t
committed_typed f t l c =
    let d = commits_from (events_of f) t c in
    let b : began_at (events_of f) t < length (events_of f) = (let z = (commits (setup_of f) (events_of f) t l d).0 in omega arith) in
    record { begun = begun_from (events_of f) t b; kind = kind-lt (setup_of f) (events_of f) t l b }
