-- Bytes from the middle of a disk.
use Rattle.std.proofs.Common.{◌≡◌, ℕ, ◌+◌, ◌≤◌, List, ◌++◌, length, take, drop, sym, ◌∙◌, ap, arith, length-drop}
use Rattle.std.proofs.lemmas.List.{take_at, length-take, drop-drop}
use Rattle.crash_disk.specs.Disk.{IsRead}

pub shifted : (file buf : List ℕ) (at filled p n : ℕ) → p ≡ at + filled → IsRead file p n buf → IsRead (drop at file) filled n buf
shifted file buf at filled p n is read = record {
  fits = read.fits;
  bytes = read.bytes ∙ ap (λ (t : List ℕ). take n t) (ap (λ (k : ℕ). drop k file) is ∙ sym (drop-drop filled at file));
  within = λ some. omega (arith, read.within some, is, length-drop at file);
  at_end = λ none some. omega (arith, read.at_end none some, is, length-drop at file);
}

pub range_is : (file buf rest : List ℕ) (n len count : ℕ) → buf ≡ take n file → n ≡ count → len ≡ n → n ≤ length file → take len (buf ++ rest) ≡ take count file
range_is file buf rest n len count is same size le = take_at buf rest len (omega (arith, ap length is, length-take n file)) ∙ is ∙ ap (λ (k : ℕ). take k file) same
