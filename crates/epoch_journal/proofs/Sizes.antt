-- The sizes of the parts of a disk.
use Rattle.std.proofs.Common.{◌≡◌, ℕ, ◌+◌, ◌<◌, ◌≤◌, List, length, refl, arith, length-append}
use Rattle.std.specs.Int.{w32, to_be_bytes}
use Rattle.epoch_journal.specs.declared.current.Half.{Half}
use Rattle.epoch_journal.specs.declared.current.Half.TheVariants.{First, Second}
use Rattle.epoch_journal.specs.Layout.{front, half_size, half_at, header}

pub length-front : (capacity : ℕ) → length (front capacity) ≡ 12
unfolding front
length-front capacity = refl

pub length-header : (label : List ℕ) → length (header label) ≡ 4 + length label
unfolding header
length-header label = omega (arith, length-append (to_be_bytes w32 (length label)) label)

pub two_halves : (capacity : ℕ) → 0 < half_size capacity → 13 + (half_size capacity + half_size capacity) ≤ capacity
unfolding half_size
two_halves capacity some = omega (arith, some)

pub small_half : (capacity : ℕ) → half_size capacity < 4294967296
unfolding half_size
small_half capacity = omega arith

pub both_fit : (capacity : ℕ) (h : Half) (n : ℕ) → 0 < n → n ≤ half_size capacity → half_at capacity h + n ≤ capacity
both_fit capacity First n some le = omega (arith, two_halves capacity (omega arith))
both_fit capacity Second n some le = omega (arith, two_halves capacity (omega arith))

pub half_some : (capacity : ℕ) (h : Half) → 13 ≤ half_at capacity h
half_some capacity First = omega arith
half_some capacity Second = omega arith
