-- What holds of every store on a disk, and what a crash leaves of it.
use Rattle.std.specs.Prelude.{ℕ, List}
use Rattle.teb_rules.specs.declared.history.Event.{Event}
use Rattle.teb_rules.specs.Setup.{Store}
use Rattle.crash_disk.specs.Sizes.{default_capacity}
use Rattle.record_journal.specs.declared.journal.Journal.{Journal}
use Rattle.record_journal.specs.Journal.{StandsFor}
use Rattle.record_journal.specs.Kept.{Keeps}
use Rattle.commit_laws.specs.Records.{records_of}

-- the journal keeps the records of all commits
abbrev pub KeepsAll : {D : Type 0} → (D → List ℕ) → (D → List ℕ → Type 0) → Store → List Event → Journal D → Type 0
KeepsAll seen may_leave X H j = Keeps seen may_leave (records_of X.setup H) j

-- a file has the records of the first k commits, for a k that is at least `least`
abbrev pub HasFirst : Store → List Event → ℕ → List ℕ → Type 0
HasFirst X H least file = StandsFor default_capacity least (records_of X.setup H) file
