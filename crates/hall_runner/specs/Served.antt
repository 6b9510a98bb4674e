-- What is shown of an input that several threads have served.
use Rattle.std.specs.Prelude.{◌≡◌, ◌≢◌, ℕ, List, [], Some, slice_get}
use Rattle.teb_rules.specs.declared.names.Entry.{Entry}
use Rattle.teb_rules.specs.declared.names.Session.{Session}
use Rattle.teb_rules.specs.declared.names.naming.NameBook.{NameBook}
use Rattle.teb_rules.specs.Setup.{Store}
use Rattle.teb_rules.specs.Run.{IsLegal, history_of}
use Rattle.teb_rules.specs.Scripts.{IsWalk, entries_of}
use Rattle.script_text.specs.declared.Line.{Line}
use Rattle.script_walk.specs.ScriptStates.{requests_on}
use Rattle.audit_check.specs.Audit.{IsAudited}
use Rattle.command_output.specs.Shown.{Shown}
use Rattle.printed_run.specs.Printed.{IsPrintedRun}

-- the entries are one legal run; those of each session with a script are a whole walk along it, and no other session has one; what is shown is the run's own
-- history, and its printed run, which is audited
pub record AreServed (X : Store) (names : NameBook) (scripts : List (Session × List Line)) (entries : List Entry) (d : Shown) : Type 0 where
  pub legal : IsLegal X entries
  pub walks : (i : ℕ) (s : Session) (lines : List Line) → slice_get scripts i ≡ Some (s, lines) → IsWalk (requests_on lines) (entries_of s.0 entries)
  pub others : (s : Session) → ((i : ℕ) (lines : List Line) → slice_get scripts i ≢ Some (s, lines)) → entries_of s.0 entries ≡ []
  pub status : d.status ≡ 0
  pub kept : d.history ≡ Some (history_of X entries)
  pub text : IsPrintedRun X names (history_of X entries) d.text
  pub audited : IsAudited d.text
