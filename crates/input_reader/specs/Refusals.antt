-- What is shown of an input that is refused, and of one that is not.
use Rattle.std.specs.Prelude.{◌≡◌, ℕ, List, [], ◌++◌, codes, decimal, None, MatchResult, IfOk}
use Rattle.script_text.specs.Texts.{why_word}
use Rattle.store_setup.specs.SetupView.{SetupView}
use Rattle.tree_toml.specs.Texts.{fault_text}
use Rattle.command_output.specs.Shown.{Shown, line_alone}
use Rattle.input_reader.specs.declared.error.InputError.{InputError}
use Rattle.input_reader.specs.declared.error.InputError.TheVariants.{ReadFault, TooLong, NoSeparator, BadTree, BadLine, OutOfMemory}
use Rattle.input_reader.specs.Inputs.{input_of}
use Rattle.input_reader.specs.Tasks.{Task}

-- the status and the line of a fault; a read that failed and out of memory have none
abbrev pub refusal : InputError → Shown
refusal ReadFault = record { status = 3; text = []; history = None }
refusal TooLong = line_alone 5 (codes "too long")
refusal NoSeparator = line_alone 6 (codes "bad tree: no separator")
refusal (BadTree why) = record { status = 6; text = fault_text why; history = None }
refusal (BadLine n why) = line_alone 7 (codes "bad script: line " ++ decimal n ++ codes " " ++ why_word why)
refusal OutOfMemory = record { status = 8; text = []; history = None }

-- what is shown of an input: its fault, or what R says of its setup and lines
abbrev pub ShowsInput : (Task → Shown → Type 0) → List ℕ → Shown → Type 0
ShowsInput R bytes d = MatchResult (input_of bytes) (λ task. R task d) (λ e. d ≡ refusal e)

-- the setup of an input
abbrev pub IsSetUp : List ℕ → SetupView → Type 0
IsSetUp bytes m = IfOk (input_of bytes) (λ task. task.setup ≡ m)
