-- What is shown of a run on a disk that fails from one of its calls on: the replies before that, and what is recovered.
use Rattle.std.specs.Prelude.{◌≡◌, ℕ, ◌+◌, ◌-◌, ◌*◌, ◌/◌, ◌<◌, ◌≤◌, Bool, true, false, if◌then◌else◌, List, [], ◌∷◌, ◌++◌, ℤ, None, codes, count_by}
use Rattle.std.specs.List.{flat_map}
use Rattle.teb_rules.specs.declared.names.Cell.{Cell}
use Rattle.teb_rules.specs.declared.names.Reply.{Reply}
use Rattle.teb_rules.specs.declared.names.Reply.TheVariants.{Committed}
use Rattle.teb_rules.specs.declared.names.naming.NameBook.{NameBook}
use Rattle.teb_rules.specs.names.Rows.{row_of, IsAscending}
use Rattle.teb_rules.specs.declared.history.Event.{Event}
use Rattle.teb_rules.specs.Setup.{Store}
use Rattle.crash_disk.specs.Calls.{IsBefore}
use Rattle.commit_laws.specs.Commits.{commit_count, rows_after}
use Rattle.script_text.specs.declared.Answered.{Answered}
use Rattle.script_text.specs.Texts.{line_text, reply_text, recovered_text}
use Rattle.command_output.specs.Shown.{Shown}
use Rattle.store_setup.specs.Stores.{store_of_view, names_of}
use Rattle.input_reader.specs.Tasks.{Task}
use Rattle.script_runner.specs.Runs.{IsReplay}

abbrev pub is_committed : Reply → Bool
is_committed Committed = true
is_committed _ = false

abbrev pub committed_replies : List Answered → ℕ
committed_replies log = count_by (λ a. is_committed a.reply) log

-- the replies before the commit that comes after the first n
pub record AreBeforeCommit (n : ℕ) (log before : List Answered) : Type 0 where
  pub commit : Answered
  pub behind : List Answered
  pub parts : log ≡ before ++ commit ∷ behind
  pub committed : commit.reply ≡ Committed
  pub earlier : committed_replies before ≡ n

-- the calls that a journal and so many commits make: two to begin, and four for each commit
abbrev pub calls_of : ℕ → ℕ
calls_of commits = 2 + 4 * commits

-- Of a run with these replies and so many commits, on a disk that fails from its call `stop` on, 0 for none: which replies were
-- given, whether the run stopped, and how many commits are on the disk.
pub data Course (stop : ℕ) (log : List Answered) (commits : ℕ) (given : List Answered) (stopped : Bool) (kept : ℕ) : Type 0 where
  -- no call fails
  Through : IsBefore stop (calls_of commits) → given ≡ log → stopped ≡ false → kept ≡ commits → Course stop log commits given stopped kept
  -- the journal is not begun
  AtOnce : 0 < stop → stop ≤ 2 → given ≡ [] → stopped ≡ true → kept ≡ 0 → Course stop log commits given stopped kept
  -- a commit is not answered
  AtCommit : 2 < stop → stop ≤ calls_of commits → kept ≡ (stop - 3) / 4 → AreBeforeCommit kept log given → stopped ≡ true → Course stop log commits given stopped kept

-- the rows, in ascending order of cells, are those where only the first so many commits count
pub record AreRowsAfter (X : Store) (H : List Event) (commits : ℕ) (rows : List (Cell × ℤ)) : Type 0 where
  pub ascending : IsAscending rows
  pub each : (x : Cell) → row_of rows x ≡ rows_after X H commits x

abbrev pub stop_text : Bool → List ℕ
stop_text stopped = if stopped then line_text (codes "stopped" ∷ []) else []

abbrev pub crash_text : NameBook → List Answered → Bool → ℕ → List (Cell × ℤ) → List ℕ
crash_text names given stopped commits rows = flat_map (reply_text names) given ++ stop_text stopped ++ recovered_text names commits rows

-- what is shown of the lines, replayed on a disk that fails from its call `stop` on
pub record IsCrash (stop : ℕ) (task : Task) (d : Shown) : Type 0 where
  pub log : List Answered
  pub history : List Event
  pub ran : IsReplay (store_of_view task.setup) task.lines log history
  pub given : List Answered
  pub stopped : Bool
  pub kept : ℕ
  pub course : Course stop log (commit_count history) given stopped kept
  pub rows : List (Cell × ℤ)
  pub recovered : AreRowsAfter (store_of_view task.setup) history kept rows
  pub status : d.status ≡ 0
  pub unkept : d.history ≡ None
  pub text : d.text ≡ crash_text (names_of task.setup) given stopped kept rows
