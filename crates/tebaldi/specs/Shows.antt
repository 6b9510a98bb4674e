-- What the program shows, by its words and by the bytes of its input.
use Rattle.std.specs.Prelude.{◌≡◌, ◌≤◌, ℕ, List, Option, Some, None, IfSome, MatchBool, MatchResult, nat_lt, length, codes}
use Rattle.store_setup.specs.SetupView.{SetupView}
use Rattle.command_output.specs.Shown.{Shown, line_alone}
use Rattle.script_text.specs.declared.input.TheConstants.{MOST_BYTES}
use Rattle.input_reader.specs.Refusals.{ShowsInput, IsSetUp, refusal}
use Rattle.input_reader.specs.Inputs.{input_of}
use Rattle.input_reader.specs.declared.error.InputError.TheVariants.{TooLong}
use Rattle.audit_runner.specs.Verdicts.{audited}
use Rattle.script_runner.specs.Runs.{IsReplay, AreTurns, IsReport, IsRun}
use Rattle.crash_runner.specs.Crashes.{IsCrash}
use Rattle.hall_runner.specs.Outcomes.{IsServedAs}
use Rattle.phase_runner.specs.Runs.{ArePhases}
use Rattle.shop_load.specs.Runs.{IsLoad}
use Rattle.shop_load.specs.Shop.{shop}
use Rattle.command_words.specs.declared.command.Command.{Command}
use Rattle.command_words.specs.declared.command.Command.TheVariants.{Replay, Turns, Threads, Pool, Load, Audit, Crash, Phases}
use Rattle.tebaldi.specs.declared.ended.Ended.{Ended}

abbrev pub bad_words : Shown
bad_words = line_alone 2 (codes "bad words")

-- what bytes come to that are no input: that they are too many, or what R says of them
abbrev pub ShowsBytes : (List ℕ → Type 0) → List ℕ → Shown → Type 0
ShowsBytes R bytes d = MatchBool (nat_lt MOST_BYTES (length bytes)) (d ≡ refusal TooLong) (R bytes)

-- what the words come to, by the bytes of the input; what several threads show stands in `Ends`, with their entries
abbrev pub Shows : Option Command → List ℕ → Shown → Type 0
Shows None bytes d = d ≡ bad_words
Shows (Some Replay) bytes d = ShowsInput (IsRun IsReplay IsReport) bytes d
Shows (Some Turns) bytes d = ShowsInput (IsRun AreTurns IsReport) bytes d
Shows (Some (Load number size)) bytes d = IsLoad number size d
Shows (Some (Crash stop)) bytes d = ShowsInput (IsCrash stop) bytes d
Shows (Some Audit) bytes d = ShowsBytes (λ text. d ≡ audited text) bytes d
Shows (Some Phases) bytes d = ShowsBytes (λ text. ArePhases text d) bytes d
Shows (Some _) bytes d = ⊥

-- nothing of several threads is kept
pub record IsAlone (e : Ended) : Type 0 where
  pub entries : e.entries ≡ None
  pub spent : e.spent ≡ None

-- `audit` answers yes to a text, where it is not too long to be read
abbrev pub IsAuditedYes : List ℕ → Type 0
IsAuditedYes text = length text ≤ MOST_BYTES → Shows (Some Audit) text (line_alone 0 (codes "audit yes"))

-- what several threads make of an input: its fault, or what its scripts come to; `audit` answers yes to the text of a whole run that is not too long to be read
abbrev pub ServesInput : List ℕ → Ended → Shown → Type 0
ServesInput bytes e d = MatchResult (input_of bytes) (λ task. IsServedAs task e.entries e.spent d × IfSome e.entries (λ _. IsAuditedYes d.text)) (λ why. (d ≡ refusal why) × IsAlone e)

-- what the words come to in the end
abbrev pub Ends : Option Command → List ℕ → Ended → Shown → Type 0
Ends (Some (Threads workers)) bytes e d = ServesInput bytes e d
Ends (Some (Pool workers)) bytes e d = ServesInput bytes e d
Ends command bytes e d = Shows command bytes d × IsAlone e

-- what a command's store is set up with: the shop, or the tree part of the input
abbrev pub SetsUp : Option Command → List ℕ → SetupView → Type 0
SetsUp (Some (Load number size)) bytes m = shop ≡ m
SetsUp _ bytes m = IsSetUp bytes m
