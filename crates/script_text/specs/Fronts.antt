-- What the mask of a line tells of its bytes.
use Rattle.std.specs.Prelude.{◌≡◌, ◌≤◌, IfSome, length, map}
use Rattle.std.specs.Simd.Lanes.{mask_l}
use Rattle.script_text.specs.Words.{is_inside}
use Rattle.script_text.specs.declared.script.fronts.Front.{Front}

abbrev pub HasMask : Front → Type 0
HasMask f = IfSome f.inside (λ m. (length f.line.now ≤ 32) × (m ≡ mask_l (map is_inside f.line.now)))
