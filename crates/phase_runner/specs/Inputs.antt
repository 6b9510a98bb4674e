-- What the bytes of an input are: a task for each phase, or the first fault.
use Rattle.std.specs.Prelude.{ℕ, ◌+◌, ◌/◌, ◌%◌, ◌==◌, nat_lt, Bool, false, not, if◌then◌else◌, List, [], ◌∷◌, length, Option, Some, None, Result, Ok, Err}
use Rattle.script_text.specs.Input.{parts_of}
use Rattle.script_text.specs.Lines.{lines_of}
use Rattle.script_text.specs.Grammar.{◌>>=◌, script_of}
use Rattle.tree_toml.specs.declared.fault.TreeTextError.{TreeTextError}
use Rattle.store_setup.specs.SetupView.{SetupView}
use Rattle.tree_toml.specs.SetupText.{setup_of_text}
use Rattle.tree_switch.specs.Names.{same_names}
use Rattle.script_text.specs.declared.input.TheConstants.{MOST_LINES}
use Rattle.input_reader.specs.declared.error.InputError.{InputError}
use Rattle.input_reader.specs.declared.error.InputError.TheVariants.{TooLong}
use Rattle.input_reader.specs.Inputs.{task_of, tree_error}
use Rattle.store_setup.specs.Stores.{names_of}
use Rattle.input_reader.specs.Tasks.{Task}
use Rattle.phase_runner.specs.declared.error.PhaseError.{PhaseError}
use Rattle.phase_runner.specs.declared.error.PhaseError.TheVariants.{BadPhase, BadInput}
use Rattle.phase_runner.specs.declared.error.PhaseWhy.TheVariants.{Many, Script, Tables, Rows}
use Rattle.phase_runner.specs.Parts.{Pair, pairs_of}

-- a fault of a part is one of the input
abbrev pub tree_in : Result SetupView TreeTextError → Result SetupView PhaseError
tree_in (Ok m) = Ok m
tree_in (Err e) = Err (BadInput (tree_error e))

abbrev pub script_in : Result Task InputError → Result Task PhaseError
script_in (Ok task) = Ok task
script_in (Err e) = Err (BadInput e)

-- a later phase has the tables of the one before it, and no rows of its own
abbrev pub behind : ℕ → SetupView → SetupView → Result (Unit {0}) PhaseError
behind k before m =
    if not (same_names m.tables before.tables) then Err (BadPhase k Tables)
    else if not (length m.rows == 0) then Err (BadPhase k Rows)
    else Ok tt

-- the setup of a phase behind another one, or of the first, which may be any
abbrev pub following : ℕ → Option Task → SetupView → Result (Unit {0}) PhaseError
following k None m = Ok tt
following k (Some before) m = behind k before.setup m

-- the task of pair k, behind another one or none: first its tree, then what stands against it, then its script
abbrev pub task_at : ℕ → Option Task → Pair → Result Task PhaseError
task_at k before p =
    tree_in (setup_of_text p.0) >>= (λ m.
    following k before m >>= (λ _.
    script_in (task_of m (script_of (names_of m) m.format p.1))))

-- the tasks of the pairs from number k on
abbrev pub tasks_from : ℕ → Option Task → List Pair → Result (List Task) PhaseError
tasks_from k before [] = Ok []
tasks_from k before (p ∷ more) = task_at k before p >>= (λ task. tasks_from (k + 1) (Some task) more >>= (λ later. Ok (task ∷ later)))

-- more than MOST_LINES lines behind the first separator
abbrev pub is_long : Option (List ℕ × List ℕ) → Bool
is_long None = false
is_long (Some p) = nat_lt MOST_LINES (length (lines_of p.1))

-- at most 16 pairs, each of which has a script part, and at most MOST_LINES lines
abbrev pub phases_of : List ℕ → List (List ℕ) → Result (List Task) PhaseError
phases_of bytes parts =
    if nat_lt 32 (length parts) then Err (BadPhase 17 Many)
    else if length parts % 2 == 1 then Err (BadPhase (length parts / 2 + 1) Script)
    else if is_long (parts_of bytes) then Err (BadInput TooLong)
    else tasks_from 1 None (pairs_of parts)
