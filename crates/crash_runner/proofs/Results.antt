-- The output of a run on a disk and of a recovery.
use Rattle.std.proofs.Common.{◌≡◌, ℕ, Bool, List, [], length, None, refl, sym, ◌∙◌, ap, subst, ℤ}
use Rattle.std.specs.Prelude.{All}
use Rattle.teb_rules.specs.declared.names.Cell.{Cell}
use Rattle.teb_rules.specs.declared.names.naming.NameBook.{NameBook}
use Rattle.teb_rules.specs.names.Rows.{row_of, IsAscending}
use Rattle.teb_rules.specs.Run.{history_after}
use Rattle.crash_disk.specs.Calls.{Tally}
use Rattle.record_journal.specs.Format.{Record}
use Rattle.record_journal.specs.Journal.{after_records}
use Rattle.commit_laws.specs.Commits.{commit_count}
use Rattle.commit_laws.specs.Records.{records_of}
use Rattle.commit_laws.proofs.Prefixes.{length-records}
use Rattle.script_text.specs.declared.Answered.{Answered}
use Rattle.script_text.specs.Named.{ReplyNamed, RowsNamed}
use Rattle.script_runner.specs.replay.Logs.{log_of, replayed}
use Rattle.store_setup.specs.SetupView.{SetupView}
use Rattle.store_setup.specs.Sound.{IsWhole, IsNamed}
use Rattle.command_output.specs.Shown.{Shown}
use Rattle.store_setup.specs.Stores.{store_of_view, names_of}
use Rattle.input_reader.specs.Tasks.{Task}
use Rattle.printed_run.proofs.Histories.{sound}
use Rattle.crash_runner.specs.Crashes.{IsCrash, crash_text}
use Rattle.crash_runner.specs.Underway.{IsRunOn}
use Rattle.crash_runner.proofs.Courses.{rows_are_after, rows_are_final}
use Rattle.crash_runner.proofs.Naming.{given_named, kept_named}

module _ (stop : ℕ) (task : Task) (whole : IsWhole task.setup) (nodes : IsNamed task.setup) (names : NameBook) (named : names ≡ names_of task.setup) (given : List Answered) (stopped : Bool)
    (t : Tally) (safe : List ℕ)
    (run : IsRunOn stop (store_of_view task.setup) task.lines given stopped t safe) where
  abbrev m : SetupView
  m = task.setup

  pub replies_named : (now : List Answered) → now ≡ given → All (λ (a : Answered). ReplyNamed names a.reply) now
  replies_named now same =
      subst (λ (w : List Answered). All (λ (a : Answered). ReplyNamed names a.reply) w) (sym same)
      (subst (λ (book : NameBook). All (λ (a : Answered). ReplyNamed book a.reply) given) (sym named)
      (given_named m whole nodes (replayed (store_of_view m) [] task.lines) stop (commit_count (history_after (store_of_view m) [] (replayed (store_of_view m) [] task.lines))) given stopped
      (commit_count run.before) run.course))

  module _ (commits : ℕ) (rows start : List (Cell × ℤ)) (starts : start ≡ m.rows) (ascending : IsAscending rows)
      (found : (rs : List Record) → rs ≡ records_of (store_of_view m).setup run.before → (commits ≡ length rs) × ((x : Cell) → row_of rows x ≡ after_records rs (row_of start) x)) where
    after : (x : Cell) → row_of rows x ≡ after_records (records_of (store_of_view m).setup run.before) (row_of m.rows) x
    after x = (found (records_of (store_of_view m).setup run.before) refl).1 x ∙ ap (λ (R : List (Cell × ℤ)). after_records (records_of (store_of_view m).setup run.before) (row_of R) x) starts

    count : commits ≡ commit_count run.before
    count = (found (records_of (store_of_view m).setup run.before) refl).0 ∙ length-records (store_of_view m).setup run.before

    pub rows_named : RowsNamed names rows
    rows_named =
        subst (λ (book : NameBook). RowsNamed book rows) (sym named)
        (kept_named m whole nodes run.before run.reached rows (rows_are_final stop (store_of_view m) task.lines given stopped t safe run (sound m whole) rows after ascending))

    pub is_crash : (d : Shown) (text : List ℕ) → d ≡ record { status = 0; text = text; history = None } → text ≡ crash_text names given stopped commits rows → IsCrash stop task d
    is_crash d text is says = record {
      log = log_of (store_of_view m) [] (replayed (store_of_view m) [] task.lines);
      history = history_after (store_of_view m) [] (replayed (store_of_view m) [] task.lines);
      ran = record { replies = refl; events = refl };
      given = given;
      stopped = stopped;
      kept = commit_count run.before;
      course = run.course;
      rows = rows;
      recovered = rows_are_after stop (store_of_view m) task.lines given stopped t safe run (sound m whole) rows after ascending;
      status = ap (λ (s : Shown). s.status) is;
      unkept = ap (λ (s : Shown). s.history) is;
      text = ap (λ (s : Shown). s.text) is ∙ says ∙ ap (λ (n : ℕ). crash_text names given stopped n rows) count ∙ ap (λ (book : NameBook). crash_text book given stopped (commit_count run.before) rows)
          named;
    }
