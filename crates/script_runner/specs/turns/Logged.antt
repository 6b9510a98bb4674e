-- The log of the driver.
use Rattle.std.specs.Prelude.{◌≡◌, ℕ, ◌+◌, ◌≤◌, Bool, true, false, List, [], ◌∷◌, ◌++◌, length, map, Some, None}
use Rattle.teb_rules.specs.declared.names.Entry.{Entry}
use Rattle.teb_rules.specs.declared.history.Event.{Event}
use Rattle.teb_rules.specs.Setup.{Store}
use Rattle.teb_rules.specs.Run.{history_of}
use Rattle.teb_rules.specs.Scripts.{Script}
use Rattle.teb_rules.specs.Driver.{Drive, Stepped}
use Rattle.driver_laws.specs.Laws.{most_requests}
use Rattle.script_text.specs.declared.Answered.{Answered}

-- what a log keeps of an entry, and of several
abbrev pub answered : Entry → Answered
answered e = record { session = e.session; reply = e.reply }

abbrev pub answers_of : List Entry → List Answered
answers_of entries = map answered entries

-- the log and the history are those of entries of which P holds
pub record IsOf (P : List Entry → Type 0) (X : Store) (log : List Answered) (H : List Event) : Type 0 where
  pub entries : List Entry
  pub holds : P entries
  pub replies : log ≡ answers_of entries
  pub events : H ≡ history_of X entries

-- a log tells the replies to entries of which P holds, a count of requests has risen by one for each, and they are within the bound
pub record AreAnswers (P : List Entry → Type 0) (X : Store) (scripts : List Script) (Tells : List Answered → Type 0) (H : List Event) (before after : ℕ) : Type 0 where
  pub answers : List Answered
  pub told : Tells answers
  pub of : IsOf P X answers H
  pub steps : after ≡ before + length answers
  pub bound : length answers ≤ most_requests scripts

-- one turn, from d to e, which the log takes up; or none, where all are through
pub record IsAnswered (X : Store) (d : Drive) (log : List Answered) (e : Drive) (logged : List Answered) : Type 0 where
  pub entry : Entry
  pub stepped : Stepped X d (Some entry) e
  pub replies : logged ≡ log ++ answered entry ∷ []

abbrev pub IsMade : Store → Bool → Drive → List Answered → Drive → List Answered → Type 0
IsMade X true d log e logged = IsAnswered X d log e logged
IsMade X false d log e logged = Stepped X d None e × (logged ≡ log)
