-- The bytes of a name.
use Rattle.std.proofs.Common.{◌≡◌, ℕ, ◌<◌, true, ◌&&◌, List, [], ◌∷◌, length, slice_index, nat_le, IsUtf8, arith}
use Rattle.std.specs.List.{list_all}
use Rattle.std.specs.Str.{IsAscii}
use Rattle.std.proofs.lemmas.Bool.{and_parts}
use Rattle.std.proofs.lemmas.Bool.Decides.{nat_tests}
use Rattle.std.proofs.lemmas.Str.{IsUtf8-from_ascii}
use Rattle.std.proofs.lemmas.Str.Ascii.{IsAscii-nil, IsAscii-cons}
use Rattle.teb_rules.specs.names.Names.{is_name, is_name_byte, is_lower}

-- a name is ASCII
IsAscii-name : (w : List ℕ) → list_all is_name_byte w ≡ true → IsAscii w
IsAscii-name [] h = IsAscii-nil
IsAscii-name (b ∷ bs) h =
    let (here, more) = and_parts (is_name_byte b) (list_all is_name_byte bs) h in
    IsAscii-cons b bs (low b here) (IsAscii-name bs more)
  where
    low : (b : ℕ) → is_name_byte b ≡ true → b < 128
    low b h = grind (arith, nat_tests)

pub IsUtf8-name : (w : List ℕ) → is_name w ≡ true → IsUtf8 w
unfolding is_name
IsUtf8-name w h =
    let (front, all) = and_parts (is_lower (slice_index w 0) && nat_le (length w) 32) (list_all is_name_byte w) h in
    IsUtf8-from_ascii w (IsAscii-name w all)
