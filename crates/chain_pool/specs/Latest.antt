-- The greatest writer of each mark.
use Rattle.std.specs.Prelude.{ℕ, ◌<◌, ◌+◌, ◌*◌, ◌%◌, List, length, slice_index}
use Rattle.teb_rules.specs.declared.names.Cell.{Cell}

-- the mark that a writer and a cell have, by the remainder of the writer and that of the cell's key
abbrev pub mark_of : ℕ → Cell → ℕ
mark_of t x = (t % 64) * 32 + x.key % 32

-- a writer is above the one of the mark that it has with a cell
abbrev pub IsAbove : List ℕ → ℕ → Cell → Type 0
IsAbove latest t x = (mark_of t x < length latest) × (slice_index latest (mark_of t x) < t)
