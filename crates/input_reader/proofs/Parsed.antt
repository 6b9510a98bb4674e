-- What an input is, from the results of reading its parts.
use Rattle.std.proofs.Common.{◌≡◌, ℕ, zero, suc, ◌<◌, ◌≤◌, List, [], ◌∷◌, length, Option, Some, None, Ok, Err, refl, sym, ◌∙◌, arith}
use Rattle.std.proofs.lemmas.Bool.{le-ltb, lt-ltb}
use Rattle.std.specs.Io.KnownBytes.{IsAtEnd}
use Rattle.std.specs.Prelude.{IsErrOf, IfOk, IfSome, Result, Vec}
use Rattle.std.specs.declared.alloc.Global.{Global}
use Rattle.teb_io.specs.Bytes.{Takes}
use Rattle.teb_io.specs.declared.source.ReadError.{ReadError}
use Rattle.teb_io.specs.declared.source.ReadError.TheVariants as read
use Rattle.script_text.specs.declared.Line.{Line}
use Rattle.script_text.specs.declared.error.ScriptError.{ScriptError}
use Rattle.script_text.specs.declared.error.ScriptError.TheVariants as script
use Rattle.script_text.specs.Input.{parts_of}
use Rattle.script_text.specs.Lines.{lines_of}
use Rattle.script_text.specs.Grammar.{script_of, Answers}
use Rattle.store_setup.specs.SetupView.{SetupView}
use Rattle.tree_toml.specs.SetupText.{setup_of_text}
use Rattle.script_text.specs.declared.input.TheConstants.{MOST_BYTES, MOST_LINES}
use Rattle.input_reader.specs.declared.error.InputError.TheVariants.{TooLong}
use Rattle.input_reader.specs.Inputs.{input_of, task_of, task_under, script_error}
use Rattle.input_reader.specs.Reads.{read_error}
use Rattle.input_reader.specs.Readings.{AreOf, AreReadFrom, IsRead, IsReadFrom}
use Rattle.store_setup.specs.Stores.{names_of}
use Rattle.input_reader.specs.Tasks.{Task}

module _ (bytes tree text : List ℕ) (few : length bytes ≤ MOST_BYTES) (parts : parts_of bytes ≡ Some (tree, text)) (lines : length (lines_of text) ≤ MOST_LINES) (m : SetupView)
    (setup : setup_of_text tree ≡ Ok m) where
  under : input_of bytes ≡ task_under (setup_of_text tree) text
  under = rw (le-ltb MOST_BYTES (length bytes) few, parts, le-ltb MOST_LINES (length (lines_of text)) lines) refl

  -- from the result of reading its script
  scripted : (r : Result (List Line) ScriptError) → script_of (names_of m) m.format text ≡ r → input_of bytes ≡ task_of m r
  scripted r s = under ∙ rw (setup, s) refl

  pub is_input : (task : Task) (ls : List Line) → script_of (names_of m) m.format text ≡ Ok ls → task ≡ record { setup = m; lines = ls } → input_of bytes ≡ Ok task
  is_input task ls s t = rw t (scripted (Ok ls) s)

  pub is_bad : (e : ScriptError) → Answers (Err e) (script_of (names_of m) m.format text) → IsRead (Err (script_error e)) (input_of bytes)
  is_bad (script.BadLine n why) s = scripted (Err (script.BadLine n why)) s
  is_bad script.OutOfMemory s = tt

-- for each number there is a longer list
long : (n : ℕ) → (xs : List ℕ) × (n < length xs)
long zero = (0 ∷ [], omega arith)
long (suc n) = let l = long n in (0 ∷ l.0, omega (arith, l.1))

too_long : (left now : Option (List ℕ)) → Takes left now (suc MOST_BYTES) → (bytes : List ℕ) × AreOf left now bytes × (MOST_BYTES < length bytes)
too_long None now t = let l = long MOST_BYTES in (l.0, record { told = tt; whole = λ k. absurd (omega (arith, l.1, k)) }, l.1)
too_long (Some xs) None t = absurd t
too_long (Some xs) (Some ys) t = (xs, record { told = refl; whole = λ k. absurd (omega (arith, t.0, k)) }, omega (arith, t.0))

pub bytes_read : (left now : Option (List ℕ)) (r : Result (Vec ℕ Global) ReadError) → IfOk r (λ v. IfSome left (λ bytes. v.items ≡ bytes) × IsAtEnd now × (length v.items ≤ MOST_BYTES))
    → (IsErrOf r read.TooLong → Takes left now (suc MOST_BYTES)) → AreReadFrom left now r
bytes_read None now (Ok v) ok long = (record { told = tt; whole = λ h. ok.1 }, ok.2)
bytes_read (Some xs) now (Ok v) ok long = (record { told = sym ok.0; whole = λ h. ok.1 }, ok.2)
bytes_read left now (Err read.ReadFault) ok long = tt
bytes_read left now (Err read.TooLong) ok long = too_long left now (long refl)
bytes_read left now (Err read.OutOfMemory) ok long = tt

too_many : (xs : List ℕ) → MOST_BYTES < length xs → input_of xs ≡ Err TooLong
too_many xs h = rw (lt-ltb MOST_BYTES (length xs) h) refl

pub is_unread : (left now : Option (List ℕ)) (e : ReadError) → AreReadFrom left now (Err e) → IsReadFrom left now (Err (read_error e))
is_unread left now read.ReadFault t = tt
is_unread left now read.TooLong t = (t.0, t.1, too_many t.0 t.2)
is_unread left now read.OutOfMemory t = tt
