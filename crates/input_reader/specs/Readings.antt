-- What is read from a source, which may tell its bytes or not.
use Rattle.std.specs.Prelude.{◌≡◌, ℕ, ◌<◌, ◌≤◌, List, length, Option, IfSome, Result, Ok, Err, Vec}
use Rattle.std.specs.declared.alloc.Global.{Global}
use Rattle.std.specs.Io.KnownBytes.{IsAtEnd}
use Rattle.teb_io.specs.declared.source.ReadError.{ReadError}
use Rattle.teb_io.specs.declared.source.ReadError.TheVariants as read
use Rattle.script_text.specs.declared.input.TheConstants.{MOST_BYTES}
use Rattle.input_reader.specs.declared.error.InputError.{InputError}
use Rattle.input_reader.specs.declared.error.InputError.TheVariants.{ReadFault, OutOfMemory}
use Rattle.input_reader.specs.Inputs.{input_of}
use Rattle.input_reader.specs.Tasks.{Task}

-- the bytes that a source had: those that it told, where it told them; and it is at its end, where they are not too many
pub record AreOf (before now : Option (List ℕ)) (bytes : List ℕ) : Type 0 where
  pub told : IfSome before (λ known. known ≡ bytes)
  pub whole : length bytes ≤ MOST_BYTES → IsAtEnd now

-- the bytes that a source had, where they are not too many; they are, where it is so answered
abbrev pub AreReadFrom : Option (List ℕ) → Option (List ℕ) → Result (Vec ℕ Global) ReadError → Type 0
AreReadFrom before now (Ok v) = AreOf before now v.items × (length v.items ≤ MOST_BYTES)
AreReadFrom before now (Err read.TooLong) = (bytes : List ℕ) × AreOf before now bytes × (MOST_BYTES < length bytes)
AreReadFrom before now (Err _) = Unit {0}

-- what bytes were read as, by what they are, unless memory ran out
abbrev pub IsRead : Result Task InputError → Result Task InputError → Type 0
IsRead (Err ReadFault) input = ⊥
IsRead (Err OutOfMemory) input = Unit {0}
IsRead read input = input ≡ read

-- what a source was read as, by the bytes that it had, unless a read failed or memory ran out
abbrev pub IsReadFrom : Option (List ℕ) → Option (List ℕ) → Result Task InputError → Type 0
IsReadFrom before now (Err ReadFault) = Unit {0}
IsReadFrom before now (Err OutOfMemory) = Unit {0}
IsReadFrom before now read = (bytes : List ℕ) × AreOf before now bytes × (input_of bytes ≡ read)
