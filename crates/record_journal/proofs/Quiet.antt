-- A sequence of calls that write nothing, and what they read.
use Rattle.std.proofs.Common.{◌≡◌, ℕ, zero, suc, ◌+◌, ◌≤◌, min, List, [], ◌∷◌, ◌++◌, length, take, drop, refl, sym, ◌∙◌, ap, arith, length-append}
use Rattle.std.proofs.lemmas.List.{take_at, length-take, take_min, take-append-le, length-take-le}
use Rattle.crash_disk.specs.Disk.{NoMore, Elapses, IsQuiet, IsRead}
use Rattle.record_journal.proofs.Moments.{goes_on}
use Rattle.record_journal.proofs.Spelled.{take_past}

module _ {D : Type 0} (seen : D → List ℕ) (may_leave : D → List ℕ → Type 0) (moment : D → ℕ) (left_since : D → ℕ → List ℕ → Type 0) (faults capacity : D → ℕ) where
  pub quieter : (old mid new : D) → IsQuiet seen may_leave moment left_since faults capacity old mid → seen new ≡ seen mid → NoMore (may_leave mid) (may_leave new)
      → Elapses (moment mid) (moment new) (left_since mid) (left_since new) (may_leave new) → faults mid ≤ faults new → capacity new ≡ capacity mid
      → IsQuiet seen may_leave moment left_since faults capacity old new
  quieter old mid new so_far same crash time later stays = record {
    same = same ∙ so_far.same;
    crash = λ c left. so_far.crash c (crash c left);
    any_moment = goes_on moment left_since old mid new (may_leave old) (may_leave new) so_far.any_moment time (λ c left. so_far.crash c (crash c left));
    later = omega (arith, so_far.later, later);
    stays = stays ∙ so_far.stays;
  }

take_nil : (n : ℕ) → take {A = ℕ} n [] ≡ []
take_nil zero = refl
take_nil (suc n) = refl

take_more_of : (xs : List ℕ) (m n : ℕ) → take (m + n) xs ≡ take m xs ++ take n (drop m xs)
take_more_of [] zero n = ap (λ (k : ℕ). take k []) (omega arith)
take_more_of [] (suc m) n = take_nil (suc m + n) ∙ sym (take_nil n)
take_more_of (x ∷ xs) zero n = ap (λ (k : ℕ). take k (x ∷ xs)) (omega arith)
take_more_of (x ∷ xs) (suc m) n =
    let is : suc m + n ≡ suc (m + n) = omega arith in
    ap (λ (k : ℕ). take k (x ∷ xs)) is ∙ ap (λ (l : List ℕ). x ∷ l) (take_more_of xs m n)

-- the bytes so far, and those that a read added after them
pub filled_more : (file bytes next piece : List ℕ) (filled n : ℕ) → take filled bytes ≡ take filled file → filled ≤ length bytes → next ≡ take filled bytes ++ piece → n ≤ length piece
    → take n piece ≡ take n (drop filled file)
    → take (filled + n) next ≡ take (filled + n) file
filled_more file bytes next piece filled n so_far le is long reads =
    ap (λ (l : List ℕ). take (filled + n) l) is
    ∙ take_past (take filled bytes) piece (filled + n) n (omega (arith, length-take-le filled bytes le))
    ∙ ap (λ (l : List ℕ). l ++ take n piece) so_far
    ∙ ap (λ (l : List ℕ). take filled file ++ l) reads
    ∙ sym (take_more_of file filled n)

pub filled_part : (file bytes ys post : List ℕ) (filled n : ℕ) → take filled bytes ≡ take filled file → filled ≤ length bytes → IsRead file filled n ys
    → take (filled + n) (take filled bytes ++ (ys ++ post)) ≡ take (filled + n) file
filled_part file bytes ys post filled n so_far le read =
    filled_more file bytes (take filled bytes ++ (ys ++ post)) (ys ++ post) filled n so_far le refl (omega (arith, read.fits, length-append ys post)) (take-append-le n ys post read.fits ∙ read.bytes)

pub part_within : (bytes ys post : List ℕ) (filled n : ℕ) → filled ≤ length bytes → n ≤ length ys → filled + n ≤ length (take filled bytes ++ (ys ++ post))
part_within bytes ys post filled n le fits = omega (arith, fits, length-append ys post, length-append (take filled bytes) (ys ++ post), length-take-le filled bytes le)

pub whole_is : (limit : ℕ) (file buf rest : List ℕ) (n len : ℕ) → buf ≡ take n file → n ≡ min (length file) limit → len ≡ n → take len (buf ++ rest) ≡ take limit file
whole_is limit file buf rest n len is least same =
    let least_too : n ≡ min limit (length file) = omega arith in
    take_at buf rest len (omega (arith, ap length is, length-take n file)) ∙ is ∙ ap (λ (k : ℕ). take k file) least_too ∙ take_min limit file
