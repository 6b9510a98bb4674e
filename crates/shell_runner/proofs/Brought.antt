-- A line that is read, and the text that it produces.
use Rattle.std.proofs.Common.{◌≡◌, ℕ, ◌≤◌, List, [], ◌++◌, Option, Some, None, Result, Ok, Err, inl, inr, refl, ap, ◌∙◌, append_assoc, length}
use Rattle.std.specs.Prelude.{IfOk, OnOk}
use Rattle.std.specs.Io.KnownBytes.{prepend_known}
use Rattle.line_reader.specs.Lines.{TakesLine, ahead}
use Rattle.line_reader.specs.declared.TheConstants.{MOST_LINE_BYTES}
use Rattle.teb_rules.specs.declared.names.naming.NameBook.{NameBook}
use Rattle.shell_lines.specs.Lines.{shell_line}
use Rattle.shell_lines.specs.declared.line.ShellLine.{ShellLine}
use Rattle.shell_lines.specs.declared.line.ShellLine.TheVariants.{Read}
use Rattle.shell_runner.specs.Runs.{AsksNext, Brings}

ahead_more : (file mid new : List ℕ) (left : Option (List ℕ)) → new ≡ file ++ mid → ahead new left ≡ prepend_known file (ahead mid left)
ahead_more file mid new None e = refl
ahead_more file mid new (Some bytes) e = ap (λ (l : List ℕ). Some (l ++ bytes)) e ∙ ap Some (append_assoc file mid bytes)

pub asks_next : (names : NameBook) (format : ℕ) (asks : ShellLine) (line mid new : List ℕ) (before left : Option (List ℕ)) → asks ≡ shell_line names format line → (file : List ℕ) × Brings asks file
    × (new ≡ file ++ mid) → TakesLine before (ahead mid left) line → length line ≤ MOST_LINE_BYTES
    → AsksNext names format asks before (ahead new left)
asks_next names format asks line mid new before left is brought takes short =
    record {
      line = line;
      file = brought.0;
      is = is;
      brings = brought.1;
      takes = record { after = ahead mid left; short = short; takes = takes; brought = ahead_more brought.0 mid new left brought.2 };
    }

pub file_read : {X E : Type 0} (asks : ShellLine) (old new : List ℕ) (r : Result X E) → asks ≡ Read → IfOk r (λ (x : X). (file : List ℕ) × (new ≡ file ++ old))
    → IfOk r (λ (x : X). (file : List ℕ) × Brings asks file × (new ≡ file ++ old))
file_read asks old new (Ok x) is h = (h.0, inl is, h.1)
file_read asks old new (Err e) is h = tt

pub no_file : (asks : ShellLine) (old new : List ℕ) → new ≡ old → (file : List ℕ) × Brings asks file × (new ≡ file ++ old)
no_file asks old new same = ([], inr refl, same)

pub lines_put : {E : Type 0} (text old new : List ℕ) (r : Result (Unit {0}) E) → OnOk r (new ≡ text ++ old) → IfOk r (λ (u : Unit {0}). (file : List ℕ) × (new ≡ file ++ old))
lines_put text old new (Ok u) h = (text, h)
lines_put text old new (Err e) h = tt
