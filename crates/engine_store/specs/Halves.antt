-- The two halves of a store, in terms of histories: which commits wait, and which ones a journal keeps.
use Rattle.std.specs.Prelude.{◌≡◌, ℕ, List, ◌++◌}
use Rattle.teb_rules.specs.names.Rows.{row_of}
use Rattle.teb_rules.specs.declared.history.Event.{Event}
use Rattle.teb_rules.specs.Setup.{Store}
use Rattle.record_journal.specs.Format.{Record}
use Rattle.commit_laws.specs.Records.{records_of}
use Rattle.epoch_journal.specs.State.{JournalState}
use Rattle.epoch_journal.specs.Kept.{Keeps}

-- these are the records of the commits that history G has after those of history H, over store X
abbrev pub AreCommitsSince : Store → List Event → List Event → List Record → Type 0
AreCommitsSince X H G rs = records_of X.setup G ≡ records_of X.setup H ++ rs

-- the commits of history H over store X were given to the journal, and it has acknowledged n of them. A crash now leaves the rows after the
-- first k of them, for a k that is at least n; until a call fails, n is all of them.
pub record KeepsCommits {D : Type 0} (seen : D → List ℕ) (may_leave : D → List ℕ → Type 0) (X : Store) (H : List Event) (n : ℕ) (j : JournalState D) : Type 0 where
  pub keeps : Keeps seen may_leave (row_of X.rows) (records_of X.setup H) n j
  pub acknowledged : j.acknowledged ≡ n
