-- The laws of candidates that are amended: for each sound tree, each lawful history, and each transaction that has begun.
use Rattle.std.specs.Prelude.{◌≡◌, ℕ, ℤ, List, slice_get, Option, Some, MatchOption, IsTrue, IsFalse}
use Rattle.teb_rules.specs.declared.names.Cell.{Cell}
use Rattle.teb_rules.specs.names.Rows.{row_of}
use Rattle.teb_rules.specs.declared.history.Event.{Event}
use Rattle.teb_rules.specs.history.Phases.{begun, aborted}
use Rattle.teb_rules.specs.Setup.{Setup}
use Rattle.teb_rules.specs.Versions.{sees, read}
use Rattle.teb_rules.specs.laws.TreeFacts.{TreeFacts}
use Rattle.teb_rules.specs.laws.Lawful.{Lawful}
use Rattle.version_chain.specs.Lists.{Version, writers_of, last_place}
use Rattle.phase_api.specs.Versions.{HoldsVersions, has_version}
use Rattle.amended_reads.specs.Amended.{candidate_up}

-- lists that hold the versions of a history, and a reader
abbrev pub OfEveryReader : (Setup → List Event → (Cell → List Version) → ℕ → Cell → Type 0) → Type 0
OfEveryReader P = (S : Setup) (H : List Event) (lists : Cell → List Version) (t : ℕ) (x : Cell) → TreeFacts S → Lawful S H → HoldsVersions S H lists → IsTrue (begun H t) → P S H lists t x

-- it is the last version that t sees
abbrev pub AmendedIsLastSeen : Type 0
AmendedIsLastSeen = OfEveryReader (λ S H lists t x. candidate_up S H t x (writers_of (lists x)) ≡ last_place (sees S H x t) (writers_of (lists x)))

-- t reads the version at this place, or the starting row if there is none
abbrev pub IsReadAt : Setup → List (Cell × ℤ) → List Event → (Cell → List Version) → ℕ → Cell → Option ℕ → Type 0
IsReadAt S R H lists t x place = MatchOption place (read S R H t x ≡ (0, row_of R x)) (λ i. (v : Version) × (slice_get (lists x) i ≡ Some v) × (read S R H t x ≡ (v.0.0, v.1)))

-- this holds of each transaction that is not aborted and has no version of its own
abbrev pub AmendedIsRead : Type 0
AmendedIsRead = OfEveryReader (λ S H lists t x. (R : List (Cell × ℤ)) → IsFalse (aborted H t) → IsFalse (has_version H x t) → IsReadAt S R H lists t x (candidate_up S H t x (writers_of (lists x))))
