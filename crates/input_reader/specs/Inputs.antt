-- What the bytes of an input are: a setup and lines, or the first fault.
use Rattle.std.specs.Prelude.{ℕ, nat_lt, if◌then◌else◌, List, length, Option, Some, None, Result, Ok, Err}
use Rattle.script_text.specs.declared.Line.{Line}
use Rattle.script_text.specs.declared.error.ScriptError.{ScriptError}
use Rattle.script_text.specs.declared.error.ScriptError.TheVariants as script
use Rattle.script_text.specs.Input.{parts_of}
use Rattle.script_text.specs.Lines.{lines_of}
use Rattle.script_text.specs.Grammar.{script_of}
use Rattle.tree_toml.specs.declared.fault.TreeTextError.{TreeTextError}
use Rattle.tree_toml.specs.declared.fault.TreeTextError.TheVariants as tree
use Rattle.store_setup.specs.SetupView.{SetupView}
use Rattle.tree_toml.specs.SetupText.{setup_of_text}
use Rattle.script_text.specs.declared.input.TheConstants.{MOST_BYTES, MOST_LINES}
use Rattle.input_reader.specs.declared.error.InputError.{InputError}
use Rattle.input_reader.specs.declared.error.InputError.TheVariants.{TooLong, NoSeparator, BadTree, BadLine, OutOfMemory}
use Rattle.store_setup.specs.Stores.{names_of}
use Rattle.input_reader.specs.Tasks.{Task}

-- a fault of the tree part, and of the script part
abbrev pub tree_error : TreeTextError → InputError
tree_error tree.OutOfMemory = OutOfMemory
tree_error why = BadTree why

abbrev pub script_error : ScriptError → InputError
script_error (script.BadLine n why) = BadLine n why
script_error script.OutOfMemory = OutOfMemory

-- the lines of a script under a setup
abbrev pub task_of : SetupView → Result (List Line) ScriptError → Result Task InputError
task_of m (Ok lines) = Ok (record { setup = m; lines = lines })
task_of m (Err e) = Err (script_error e)

-- a script under what the tree part is
abbrev pub task_under : Result SetupView TreeTextError → List ℕ → Result Task InputError
task_under (Ok m) text = task_of m (script_of (names_of m) m.format text)
task_under (Err e) text = Err (tree_error e)

-- at most MOST_LINES lines
abbrev pub task_in : Option (List ℕ × List ℕ) → Result Task InputError
task_in None = Err NoSeparator
task_in (Some p) = if nat_lt MOST_LINES (length (lines_of p.1)) then Err TooLong else task_under (setup_of_text p.0) p.1

-- at most MOST_BYTES bytes
abbrev pub input_of : List ℕ → Result Task InputError
input_of bytes = if nat_lt MOST_BYTES (length bytes) then Err TooLong else task_in (parts_of bytes)
