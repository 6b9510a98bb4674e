-- The number of lines of an input.
use Rattle.std.proofs.Common.{◌≡◌, ℕ, ◌≤◌, Bool, if◌then◌else◌, List, length, Option, Some, None, Result, Ok, Err, inl, inr, refl, sym, ◌∙◌, ap, arith}
use Rattle.std.proofs.lemmas.Bool.{cases_lt, le-ltb, lt-ltb}
use Rattle.script_text.specs.declared.Line.{Line}
use Rattle.script_text.specs.declared.error.ScriptError.{ScriptError}
use Rattle.script_text.specs.Input.{parts_of}
use Rattle.script_text.specs.Lines.{lines_of}
use Rattle.script_text.specs.Grammar.{script_of}
use Rattle.script_text.proofs.ParsedSessions.{script_few}
use Rattle.tree_toml.specs.declared.fault.TreeTextError.{TreeTextError}
use Rattle.store_setup.specs.SetupView.{SetupView}
use Rattle.tree_toml.specs.SetupText.{setup_of_text}
use Rattle.script_text.specs.declared.input.TheConstants.{MOST_BYTES, MOST_LINES}
use Rattle.input_reader.specs.declared.error.InputError.{InputError}
use Rattle.input_reader.specs.declared.error.InputError.TheVariants.{TooLong, NoSeparator}
use Rattle.input_reader.specs.Inputs.{input_of, task_in, task_of, task_under, script_error, tree_error}
use Rattle.store_setup.specs.Stores.{names_of}
use Rattle.input_reader.specs.Tasks.{Task}

apart : (task : Task) (why : InputError) → Ok task ≡ Err why → ⊥
apart task why q = absurd (cc)

module _ (task : Task) where
  scripted : (m : SetupView) (text : List ℕ) (r : Result (List Line) ScriptError) → script_of (names_of m) m.format text ≡ r → length (lines_of text) ≤ MOST_LINES → task_of m r ≡ Ok task
      → length task.lines ≤ MOST_LINES
  scripted m text (Ok ls) s few q = let same : record { setup = m; lines = ls } ≡ task = cc in
      omega (arith, script_few (names_of m) m.format 1 (lines_of text) ls s, few, ap (λ (t : Task). length t.lines) same)
  scripted m text (Err w) s few q = absurd (apart task (script_error w) (sym q))

  set_up : (r : Result SetupView TreeTextError) (text : List ℕ) → length (lines_of text) ≤ MOST_LINES → task_under r text ≡ Ok task → length task.lines ≤ MOST_LINES
  set_up (Ok m) text few q = scripted m text (script_of (names_of m) m.format text) refl few q
  set_up (Err w) text few q = absurd (apart task (tree_error w) (sym q))

  in_parts : (o : Option (List ℕ × List ℕ)) → task_in o ≡ Ok task → length task.lines ≤ MOST_LINES
  in_parts None q = absurd (apart task NoSeparator (sym q))
  in_parts (Some p) q = elim (cases_lt MOST_LINES (length (lines_of p.1))) [
    | inl lt ↦ absurd (apart task TooLong (sym q ∙ ap (λ (b : Bool). if b then Err TooLong else task_under (setup_of_text p.0) p.1) (lt-ltb MOST_LINES (length (lines_of p.1)) lt)))
    | inr le ↦ set_up (setup_of_text p.0) p.1 le (sym (ap (λ (b : Bool). if b then Err TooLong else task_under (setup_of_text p.0) p.1) (le-ltb MOST_LINES (length (lines_of p.1)) le)) ∙ q)
  ]

-- an input has at most MOST_LINES lines
pub few_lines : (bytes : List ℕ) (task : Task) → input_of bytes ≡ Ok task → length task.lines ≤ MOST_LINES
few_lines bytes task e = elim (cases_lt MOST_BYTES (length bytes)) [
  | inl lt ↦ absurd (apart task TooLong (sym e ∙ ap (λ (b : Bool). if b then Err TooLong else task_in (parts_of bytes)) (lt-ltb MOST_BYTES (length bytes) lt)))
  | inr le ↦ in_parts task (parts_of bytes) (sym (ap (λ (b : Bool). if b then Err TooLong else task_in (parts_of bytes)) (le-ltb MOST_BYTES (length bytes) le)) ∙ e)
]
