-- What a line of the shell asks.
use Rattle.std.specs.Prelude.{ℕ, ◌==◌, if◌then◌else◌, List, [], ◌∷◌, Result, Ok, Err, slice_index}
use Rattle.std.specs.Str.Lines.{strip_carriage_return}
use Rattle.teb_rules.specs.declared.names.naming.NameBook.{NameBook}
use Rattle.script_text.specs.Grammar.{script_of}
use Rattle.script_text.specs.Words.{words_of}
use Rattle.script_text.specs.declared.Line.{Line}
use Rattle.script_text.specs.declared.error.ScriptError.{ScriptError}
use Rattle.script_text.specs.declared.error.ScriptError.TheVariants as errors
use Rattle.shell_lines.specs.Commands.{command_of}
use Rattle.shell_lines.specs.declared.line.ShellLine.{ShellLine}
use Rattle.shell_lines.specs.declared.line.ShellLine.TheVariants as line

-- the words of a line, without the one carriage return at its end
abbrev pub line_words : List ℕ → List (List ℕ)
line_words text = words_of (strip_carriage_return text)

abbrev pub first_byte : List (List ℕ) → ℕ
first_byte [] = 0
first_byte (w ∷ ws) = slice_index w 0

-- the word that names a file
abbrev pub second_word : List (List ℕ) → List ℕ
second_word (v ∷ w ∷ ws) = w
second_word _ = []

-- what the lines of a script ask that is one line
abbrev pub of_script : Result (List Line) ScriptError → ShellLine
of_script (Ok []) = line.Nothing
of_script (Ok (l ∷ ls)) = line.Ask l.session l.request
of_script (Err (errors.BadLine n w)) = line.Bad w
of_script (Err errors.OutOfMemory) = line.Nothing

abbrev pub asked : NameBook → ℕ → List ℕ → ShellLine
asked names format text = of_script (script_of names format text)

-- a line whose first word begins with a dot (46) is a command of the shell, and any other a line of a script
abbrev pub shell_line : NameBook → ℕ → List ℕ → ShellLine
shell_line names format text =
    if first_byte (line_words text) == 46 then command_of names (line_words text)
    else asked names format text
