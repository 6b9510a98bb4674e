-- A word, read byte by byte.
use Rattle.std.proofs.Common.{◌≡◌, ℕ, List, true, length, sym}
use Rattle.std.specs.Str.{bytes_eq}
use Rattle.std.proofs.lemmas.Slice.Eq.{bytes_eq-Decides, HasBytesAt, text_from_reads}

pub is_word : (word bytes : List ℕ) → length word ≡ length bytes → HasBytesAt word 0 bytes → true ≡ bytes_eq word bytes
is_word word bytes long read = sym ((bytes_eq-Decides word bytes).1 (text_from_reads word bytes long read))
