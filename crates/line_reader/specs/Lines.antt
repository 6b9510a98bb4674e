-- Lines that are taken of known bytes.
use Rattle.std.specs.Prelude.{◌≡◌, ◌≢◌, ◌⊎◌, ℕ, ◌+◌, ◌<◌, List, [], ◌∷◌, ◌++◌, Option, Some, None, slice_index, EachIndex, length, take, Vec}
use Rattle.std.specs.declared.alloc.Global.{Global}
use Rattle.std.specs.Io.KnownBytes.{Consumes, IsAtEnd, prepend_known}
use Rattle.line_reader.specs.declared.TheConstants.{MOST_LINE_BYTES}

-- what is read and not yet taken, and then what is left of the source
abbrev pub ahead : List ℕ → Option (List ℕ) → Option (List ℕ)
ahead read left = prepend_known read left

-- no byte of a line is a line feed (10)
abbrev pub IsLine : List ℕ → Type 0
IsLine line = EachIndex line (λ k. slice_index line k ≢ 10)

-- the first line feed of these bytes is at this place
pub record IsFirstFeed (bytes : List ℕ) (n : ℕ) : Type 0 where
  pub within : n < length bytes
  pub line : IsLine (take n bytes)
  pub feed : slice_index bytes n ≡ 10

-- a line is taken with its line feed; or it has none, and nothing is left
abbrev pub TakesLine : Option (List ℕ) → Option (List ℕ) → List ℕ → Type 0
TakesLine before after line = IsLine line × (Consumes before after (line ++ 10 ∷ []) ⊎ (Consumes before after line × IsAtEnd after × (line ≢ [])))

-- the next line is taken, or there is none
abbrev pub TakesNext : Option (List ℕ) → Option (List ℕ) → Option (Vec ℕ Global) → Type 0
TakesNext before after None = IsAtEnd before × IsAtEnd after
TakesNext before after (Some line) = TakesLine before after line.items

-- the first line of these bytes is longer than a line may be
pub record IsTooLong (bytes : List ℕ) : Type 0 where
  pub more : MOST_LINE_BYTES < length bytes
  pub line : IsLine (take (MOST_LINE_BYTES + 1) bytes)
