-- What the lines of a script ask, or why one of them is bad.
use Rattle.std.specs.Prelude.{◌≡◌, ℕ, ◌+◌, ◌-◌, ◌^◌, ℤ, ◌&&◌, ◌==◌, nat_le, if◌then◌else◌, List, [], ◌∷◌, ◌++◌, codes, Option, Some, None, Result, Ok, Err, slice_index, unwrap_or, Vec}
use Rattle.std.specs.declared.alloc.Global.{Global}
use Rattle.std.specs.Option.{ok_or, option_to_list}
use Rattle.std.specs.Str.{bytes_eq}
use Rattle.teb_rules.specs.declared.names.TheConstants.{SESSIONS}
use Rattle.teb_rules.specs.names.Names.{number_of}
use Rattle.teb_rules.specs.declared.names.Cell.{Cell}
use Rattle.teb_rules.specs.declared.names.Session.{Session}
use Rattle.teb_rules.specs.declared.names.Spot.{Spot}
use Rattle.teb_rules.specs.declared.names.Request.{Request}
use Rattle.teb_rules.specs.declared.names.Request.TheVariants as request
use Rattle.teb_rules.specs.declared.names.naming.NameBook.{NameBook}
use Rattle.script_text.specs.Lines.{lines_of}
use Rattle.script_text.specs.Words.{words_of}
use Rattle.script_text.specs.Numbers.{number_upto, number_from_one, integer_of}
use Rattle.teb_rules.specs.names.Names.{is_name}
use Rattle.script_text.specs.declared.script.grammar.Verb.{Verb}
use Rattle.script_text.specs.declared.script.grammar.Verb.TheVariants as verb
use Rattle.script_text.specs.declared.error.LineWhy.{LineWhy}
use Rattle.script_text.specs.declared.error.LineWhy.TheVariants as why
use Rattle.script_text.specs.declared.Line.{Line}
use Rattle.script_text.specs.declared.error.ScriptError.{ScriptError}
use Rattle.script_text.specs.declared.error.ScriptError.TheVariants as errors

-- what comes next, unless there is a fault already
infixl 10 ◌>>=◌
abbrev pub ◌>>=◌ : {A B E : Type 0} → Result A E → (A → Result B E) → Result B E
(Ok x) >>= f = f x
(Err e) >>= f = Err e

-- the number of a name, 255 where the tree does not have it
unfoldable pub name_at : List (List ℕ) → List ℕ → Result ℕ LineWhy
name_at names w = if is_name w then Ok (unwrap_or (number_of names w) 255) else Err why.Name

unfoldable pub number_at : List ℕ → Result ℕ LineWhy
number_at w = ok_or (number_upto (2 ^ 32 - 1) w) why.Number

unfoldable pub value_at : List ℕ → Result ℤ LineWhy
value_at w = ok_or (integer_of w) why.Number

unfoldable pub cell_at : List (List ℕ) → List ℕ → List ℕ → Result Cell LineWhy
cell_at tables t k = name_at tables t >>= (λ t. number_at k >>= (λ k. Ok (record { table = record { 0 = t }; key = k })))

abbrev pub session_at : List ℕ → Result Session LineWhy
session_at w = ok_or (number_from_one SESSIONS w) why.Session >>= (λ s. Ok (record { 0 = s }))

-- what the words behind a verb say: their count is looked at first, and then each from left to right
unfoldable pub nothing_in : List (List ℕ) → Result (Unit {0}) LineWhy
nothing_in [] = Ok tt
nothing_in _ = Err why.Count

unfoldable pub cell_in : List (List ℕ) → List (List ℕ) → Result Cell LineWhy
cell_in tables (t ∷ k ∷ []) = cell_at tables t k
cell_in tables _ = Err why.Count

unfoldable pub cell_and_value_in : List (List ℕ) → List (List ℕ) → Result (Cell × ℤ) LineWhy
cell_and_value_in tables (t ∷ k ∷ v ∷ []) = cell_at tables t k >>= (λ c. value_at v >>= (λ v. Ok (c, v)))
cell_and_value_in tables _ = Err why.Count

unfoldable pub cell_and_count_in : List (List ℕ) → List (List ℕ) → Result (Cell × ℕ) LineWhy
cell_and_count_in tables (t ∷ k ∷ n ∷ []) = cell_at tables t k >>= (λ c. ok_or (number_from_one 16 n) why.Number >>= (λ n. Ok (c, n)))
cell_and_count_in tables _ = Err why.Count

-- from format 2 on an instance may follow the type
unfoldable pub spot_in : List (List ℕ) → ℕ → List (List ℕ) → Result Spot LineWhy
spot_in types format (k ∷ []) = name_at types k >>= (λ k. Ok (record { kind = record { 0 = k }; instance = 0 }))
spot_in types format (k ∷ i ∷ []) =
    if nat_le 2 format then name_at types k >>= (λ k. number_at i >>= (λ i. Ok (record { kind = record { 0 = k }; instance = i })))
    else Err why.Count
spot_in types format _ = Err why.Count

-- formats 1 and 2 have no `delete` and no `scan`
unfoldable pub verb_of : ℕ → List ℕ → Option Verb
verb_of format w =
    if bytes_eq w (codes "begin") then Some verb.Begin
    else if bytes_eq w (codes "read") then Some verb.Read
    else if bytes_eq w (codes "write") then Some verb.Write
    else if bytes_eq w (codes "add") then Some verb.Add
    else if bytes_eq w (codes "prepare") then Some verb.Prepare
    else if bytes_eq w (codes "commit") then Some verb.Commit
    else if bytes_eq w (codes "abort") then Some verb.Abort
    else if nat_le 3 format && bytes_eq w (codes "delete") then Some verb.Delete
    else if nat_le 3 format && bytes_eq w (codes "scan") then Some verb.Scan
    else None

-- the fault of line n
abbrev pub at_line : {A : Type 0} → ℕ → Result A LineWhy → Result A ScriptError
at_line n (Ok x) = Ok x
at_line n (Err w) = Err (errors.BadLine n w)

module _ (names : NameBook) (format : ℕ) where
  abbrev pub arguments : Verb → List (List ℕ) → Result Request LineWhy
  arguments verb.Begin ws = spot_in names.types format ws >>= (λ s. Ok (request.Begin s))
  arguments verb.Read ws = cell_in names.tables ws >>= (λ c. Ok (request.Read c))
  arguments verb.Write ws = cell_and_value_in names.tables ws >>= (λ p. Ok (request.Write p.0 p.1))
  arguments verb.Add ws = cell_and_value_in names.tables ws >>= (λ p. Ok (request.Add p.0 p.1))
  arguments verb.Prepare ws = nothing_in ws >>= (λ _. Ok request.Prepare)
  arguments verb.Commit ws = nothing_in ws >>= (λ _. Ok request.Commit)
  arguments verb.Abort ws = nothing_in ws >>= (λ _. Ok request.Abort)
  arguments verb.Delete ws = cell_in names.tables ws >>= (λ c. Ok (request.Delete c))
  arguments verb.Scan ws = cell_and_count_in names.tables ws >>= (λ p. Ok (request.Scan p.0 p.1))

  abbrev pub after_session : List (List ℕ) → Result Request LineWhy
  after_session [] = Err why.Verb
  after_session (v ∷ ws) = ok_or (verb_of format v) why.Verb >>= (λ v. arguments v ws)

  -- line n of a script, by its words: it asks nothing where it is blank or begins with `#` (35)
  unfoldable pub line_in : ℕ → List (List ℕ) → Result (Option Line) LineWhy
  line_in n [] = Ok None
  line_in n (w ∷ ws) =
      if slice_index w 0 == 35 then Ok None
      else session_at w >>= (λ s. after_session ws >>= (λ r. Ok (Some (record { number = n; session = s; request = r }))))

  unfoldable pub line_of : ℕ → List ℕ → Result (Option Line) LineWhy
  line_of n l = line_in n (words_of l)

  -- the lines from number n on: all that ask something, or the first that is bad
  unfoldable pub script_from : ℕ → List (List ℕ) → Result (List Line) ScriptError
  script_from n [] = Ok []
  script_from n (l ∷ ls) = at_line n (line_of n l) >>= (λ o. script_from (n + 1) ls >>= (λ more. Ok (option_to_list o ++ more)))

  abbrev pub script_of : List ℕ → Result (List Line) ScriptError
  script_of text = script_from 1 (lines_of text)

-- the answer is what the script is, unless memory ran out
abbrev pub Answers : Result (Vec Line Global) ScriptError → Result (List Line) ScriptError → Type 0
Answers (Ok v) script = script ≡ Ok v.items
Answers (Err errors.OutOfMemory) script = Unit {0}
Answers (Err e) script = script ≡ Err e
