-- What a crash leaves in each of the two writes that add a record.
use Rattle.std.proofs.Common.{◌≡◌, ℕ, ◌+◌, ◌<◌, ◌≤◌, List, [], ◌∷◌, ◌++◌, length, get_or, take, drop, sym, ◌∙◌, ap, arith, append_assoc, length-append}
use Rattle.std.proofs.lemmas.List.{take_at, drop_at, drop_more}
use Rattle.crash_disk.specs.Disk.{IsTorn, Holds}
use Rattle.record_journal.proofs.Torn.{torn_front, torn_back, holds_middle, two_parts, three_parts}

module _ (pre : List ℕ) (end : ℕ) (size : end ≡ length pre) where
  front_of : (x rest : List ℕ) → x ≡ pre ++ 0 ∷ rest → take (end + 1) x ≡ pre ++ 0 ∷ []
  front_of x rest is =
      ap (λ (l : List ℕ). take (end + 1) l) (is ∙ sym (append_assoc pre (0 ∷ []) rest))
      ∙ take_at (pre ++ 0 ∷ []) rest (end + 1) (omega (arith, size, length-append pre (0 ∷ [])))

  long_enough : (x rest : List ℕ) → x ≡ pre ++ 0 ∷ rest → end + 1 ≤ length x
  long_enough x rest is = omega (arith, size, ap length is, length-append pre (0 ∷ rest))

  -- the bytes are written after the end mark
  pub written_behind : (bytes old rest c : List ℕ) → old ≡ pre ++ 0 ∷ rest → 0 < length bytes → IsTorn (end + 1) (length bytes) old c → Holds (end + 1) bytes c
      → c ≡ pre ++ 0 ∷ (bytes ++ drop (end + 1 + length bytes) c)
  written_behind bytes old rest c is some torn holds =
      three_parts (end + 1) (length bytes) c (pre ++ 0 ∷ []) bytes (torn_front (end + 1) (length bytes) old c torn (long_enough old rest is) ∙ front_of old rest is)
      (holds_middle (end + 1) bytes c holds some)
      ∙ append_assoc (pre ++ 0 ∷ []) bytes (drop (end + 1 + length bytes) c)
      ∙ append_assoc pre (0 ∷ []) (bytes ++ drop (end + 1 + length bytes) c)

  -- a write of the mark changes that byte only
  pub marked : (staged tail c : List ℕ) → staged ≡ pre ++ 0 ∷ tail → IsTorn end 1 staged c → c ≡ pre ++ get_or c end 0 ∷ tail
  marked staged tail c is torn =
      let long = long_enough staged tail is in
      two_parts end c pre (torn_front end 1 staged c torn (omega (arith, long)) ∙ ap (λ (l : List ℕ). take end l) is ∙ take_at pre (0 ∷ tail) end (sym size))
      ∙ ap (λ (l : List ℕ). pre ++ l) (drop_more c end 0 (omega (arith, long, torn.no_shorter)) ∙ ap (λ (l : List ℕ). get_or c end 0 ∷ l) (torn_back end 1 staged c torn long ∙ back))
    where
      back : drop (end + 1) staged ≡ tail
      back =
          ap (λ (l : List ℕ). drop (end + 1) l) (is ∙ sym (append_assoc pre (0 ∷ []) tail))
          ∙ drop_at (pre ++ 0 ∷ []) tail (end + 1) (omega (arith, size, length-append pre (0 ∷ [])))
