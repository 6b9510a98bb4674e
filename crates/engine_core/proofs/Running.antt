-- Unfinished transactions of a lawful history.
use Rattle.std.proofs.Common.{◌≡◌, ℕ, ◌<◌, ◌≤◌, true, List, IsFalse}
use Rattle.std.proofs.lemmas.Bool.{and_parts, not-true}
use Rattle.teb_rules.specs.declared.history.Event.{Event}
use Rattle.teb_rules.specs.history.Phases.{begun, unfinished, aborted, begun_count, kind_of}
use Rattle.teb_rules.specs.Setup.{Setup}
use Rattle.teb_rules.specs.laws.Lawful.{Lawful}
use Rattle.teb_rules.proofs.lemmas.laws.Timeline.{begun_counted, kind-lt}
use Rattle.candidate_reads.proofs.Sources.{begun_place}

pub begun_unfinished : (H : List Event) (t : ℕ) → unfinished H t ≡ true → begun H t ≡ true
unfolding unfinished
begun_unfinished H t h = (and_parts _ _ (and_parts _ _ h).0).0

pub unfinished_kept : (H : List Event) (t : ℕ) → unfinished H t ≡ true → IsFalse (aborted H t)
unfolding unfinished
unfinished_kept H t h = not-true _ (and_parts _ _ h).1

pub unfinished_numbered : (S : Setup) (H : List Event) (t : ℕ) → Lawful S H → unfinished H t ≡ true → (0 < t) × (t ≤ begun_count H)
unfinished_numbered S H t l h = begun_counted S H t l (begun_place H t (begun_unfinished H t h))

pub unfinished_typed : (S : Setup) (H : List Event) (t : ℕ) → Lawful S H → unfinished H t ≡ true → kind_of H t < S.types
unfinished_typed S H t l h = kind-lt S H t l (begun_place H t (begun_unfinished H t h))
