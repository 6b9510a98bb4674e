-- The laws of the first commits of a history: X is the store, and H any lawful history of it.
use Rattle.std.specs.Prelude.{◌≡◌, ◌≤◌, ℕ, List, take}
use Rattle.teb_rules.specs.declared.names.Cell.{Cell}
use Rattle.teb_rules.specs.names.Rows.{row_of}
use Rattle.teb_rules.specs.declared.history.Event.{Event}
use Rattle.teb_rules.specs.Setup.{Store}
use Rattle.teb_rules.specs.Accepted.{IsSound}
use Rattle.teb_rules.specs.Ranks.{serial_order}
use Rattle.teb_rules.specs.Serializes.{Serializes, final_table}
use Rattle.teb_rules.specs.laws.Lawful.{Lawful, ReadsRows}
use Rattle.record_journal.specs.Journal.{after_records}
use Rattle.commit_laws.specs.Commits.{commit_count, up_to_commit, rows_after}
use Rattle.commit_laws.specs.Records.{records_of}

abbrev pub OfEveryHistory : (Store → List Event → Type 0) → Type 0
OfEveryHistory P = (X : Store) (H : List Event) → IsSound X.setup → Lawful X.setup H → P X H

-- the first k records leave what the first k commits leave
abbrev pub RecordsLeaveTheRows : Type 0
RecordsLeaveTheRows = OfEveryHistory (λ X H. (k : ℕ) → k ≤ commit_count H → (x : Cell) → after_records (take k (records_of X.setup H)) (row_of X.rows) x ≡ rows_after X H k x)

-- the history up to the k-th commit serializes, and its final table is what the first k commits leave
pub record IsOfSerialRun (X : Store) (H : List Event) (k : ℕ) : Type 0 where
  pub serializes : Serializes X (up_to_commit k H) (serial_order X.setup (up_to_commit k H))
  pub rows : (x : Cell) → rows_after X H k x ≡ final_table X (up_to_commit k H) x

abbrev pub FirstCommitsSerialize : Type 0
FirstCommitsSerialize = OfEveryHistory (λ X H. ReadsRows X.rows H → (k : ℕ) → IsOfSerialRun X H k)
