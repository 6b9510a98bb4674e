-- What a line asks that begins with a dot.
use Rattle.std.specs.Prelude.{ℕ, if◌then◌else◌, List, [], ◌∷◌, codes, Option, Some, None, Result, Ok, Err}
use Rattle.std.specs.Option.{ok_or, option_map}
use Rattle.std.specs.Str.{bytes_eq}
use Rattle.teb_rules.specs.names.Names.{number_of}
use Rattle.teb_rules.specs.declared.names.Table.{Table}
use Rattle.teb_rules.specs.declared.names.naming.NameBook.{NameBook}
use Rattle.script_text.specs.declared.error.LineWhy.{LineWhy}
use Rattle.script_text.specs.declared.error.LineWhy.TheVariants as why
use Rattle.script_text.specs.Grammar.{◌>>=◌, number_at}
use Rattle.shell_lines.specs.declared.line.RowRange.{RowRange}
use Rattle.shell_lines.specs.declared.line.ShellLine.{ShellLine}
use Rattle.shell_lines.specs.declared.line.ShellLine.TheVariants as line
use Rattle.shell_lines.specs.declared.commands.Dot.{Dot}
use Rattle.shell_lines.specs.declared.commands.Dot.TheVariants as dot

unfoldable pub dot_of : List ℕ → Option Dot
dot_of w =
    if bytes_eq w (codes ".rows") then Some dot.Rows
    else if bytes_eq w (codes ".order") then Some dot.Order
    else if bytes_eq w (codes ".epoch") then Some dot.Epoch
    else if bytes_eq w (codes ".checkpoint") then Some dot.Checkpoint
    else if bytes_eq w (codes ".tables") then Some dot.Tables
    else if bytes_eq w (codes ".types") then Some dot.Types
    else if bytes_eq w (codes ".tree") then Some dot.Tree
    else if bytes_eq w (codes ".guarantees") then Some dot.Guarantees
    else if bytes_eq w (codes ".sessions") then Some dot.Sessions
    else if bytes_eq w (codes ".dump") then Some dot.Dump
    else if bytes_eq w (codes ".read") then Some dot.Read
    else if bytes_eq w (codes ".help") then Some dot.Help
    else if bytes_eq w (codes ".quit") then Some dot.Quit
    else None

-- a table that there is
unfoldable pub table_at : List (List ℕ) → List ℕ → Result Table LineWhy
table_at tables w = ok_or (option_map (λ n. record { 0 = n }) (number_of tables w)) why.Name

-- a table, the least key and the most rows, as far as they are given
unfoldable pub range_of : List (List ℕ) → List (List ℕ) → Result RowRange LineWhy
range_of tables [] = Ok (record { table = None; from = 0; count = None })
range_of tables (t ∷ []) = table_at tables t >>= (λ t. Ok (record { table = Some t; from = 0; count = None }))
range_of tables (t ∷ k ∷ []) = table_at tables t >>= (λ t. number_at k >>= (λ k. Ok (record { table = Some t; from = k; count = None })))
range_of tables (t ∷ k ∷ n ∷ []) = table_at tables t >>= (λ t. number_at k >>= (λ k. number_at n >>= (λ n. Ok (record { table = Some t; from = k; count = Some n }))))
range_of tables _ = Err why.Count

abbrev pub of_range : Result RowRange LineWhy → ShellLine
of_range (Ok r) = line.Rows r
of_range (Err w) = line.Bad w

-- no word follows
abbrev pub lone : ShellLine → List (List ℕ) → ShellLine
lone l [] = l
lone l _ = line.Bad why.Count

-- one word follows
abbrev pub with_file : List (List ℕ) → ShellLine
with_file (w ∷ []) = line.Read
with_file _ = line.Bad why.Count

abbrev pub arguments_of : NameBook → Dot → List (List ℕ) → ShellLine
arguments_of names dot.Rows ws = of_range (range_of names.tables ws)
arguments_of names dot.Order ws = lone line.Order ws
arguments_of names dot.Epoch ws = lone line.Epoch ws
arguments_of names dot.Checkpoint ws = lone line.Checkpoint ws
arguments_of names dot.Tables ws = lone line.Tables ws
arguments_of names dot.Types ws = lone line.Types ws
arguments_of names dot.Tree ws = lone line.Tree ws
arguments_of names dot.Guarantees ws = lone line.Guarantees ws
arguments_of names dot.Sessions ws = lone line.Sessions ws
arguments_of names dot.Dump ws = lone line.Dump ws
arguments_of names dot.Read ws = with_file ws
arguments_of names dot.Help ws = lone line.Help ws
arguments_of names dot.Quit ws = lone line.Quit ws

abbrev pub with_dot : NameBook → Option Dot → List (List ℕ) → ShellLine
with_dot names (Some d) ws = arguments_of names d ws
with_dot names None ws = line.Bad why.Verb

abbrev pub command_of : NameBook → List (List ℕ) → ShellLine
command_of names [] = line.Nothing
command_of names (w ∷ ws) = with_dot names (dot_of w) ws
