-- The four calls that add a record.
use Rattle.std.proofs.Common.{◌≡◌, inl, ℕ, ◌+◌, ◌≤◌, List, [], ◌∷◌, ◌++◌, length, sym, ◌∙◌, ap, subst}
use Rattle.crash_disk.specs.Disk.{IsTorn, Holds, Follows, NoMore, Only, Elapses, LeavesOnly}
use Rattle.record_journal.specs.Format.{Record, recovered}
use Rattle.record_journal.specs.Journal.{IsAtRest, IsBody, IsBeforeOrAfter}
use Rattle.record_journal.proofs.Moments.{started, goes_on}
use Rattle.record_journal.proofs.Crash.{IsStaged, before, stage_crash, written_behind, gate_crash, written_gate}

module _ {D : Type 0} (seen : D → List ℕ) (may_leave : D → List ℕ → Type 0) (moment : D → ℕ) (left_since : D → ℕ → List ℕ → Type 0)
    (limit : ℕ) (rs : List Record) (r : Record) (end : ℕ) (bytes : List ℕ) (old : D)
    (added : IsBody r bytes) (at_rest : IsAtRest limit rs end (seen old)) (room : end + 1 + length bytes ≤ limit) (only : Only (seen old) (may_leave old)) where
  abbrev P : List ℕ → Type 0
  P = IsBeforeOrAfter limit rs r

  abbrev Time : D → D → Type 0
  Time before now = Elapses (moment before) (moment now) (left_since before) (left_since now) (may_leave now)

  pub wrote : (one : D) → ((c : List ℕ) → left_since old (moment old) c → may_leave old c) → Follows (IsTorn (end + 1) (length bytes)) (may_leave old) (may_leave one) → Time old one
      → LeavesOnly moment left_since old one P
  wrote one only_now crash time =
      let begins = started moment left_since old P (λ c left. inl (ap (recovered limit) (only c (only_now c left)) ∙ before limit rs r end bytes (seen old) added at_rest room)) in
      goes_on moment left_since old old one P (may_leave one) begins time
      (λ c now. inl (stage_crash limit rs r end bytes (seen old) added at_rest room (may_leave old) (may_leave one) only crash c now))

  pub synced : (one two : D) → LeavesOnly moment left_since old one P → Follows (IsTorn (end + 1) (length bytes)) (may_leave old) (may_leave one) → NoMore (may_leave one) (may_leave two)
      → Time one two
      → LeavesOnly moment left_since old two P
  synced one two so_far crash no_more time =
      goes_on moment left_since old one two P (may_leave two) so_far time
      (λ c now. inl (stage_crash limit rs r end bytes (seen old) added at_rest room (may_leave old) (may_leave one) only crash c (no_more c now)))

  -- the second write begins with the record after the closed gate, all of it on the disk
  pub staged : (one two : D) → IsTorn (end + 1) (length bytes) (seen old) (seen one) → Holds (end + 1) bytes (seen one) → seen two ≡ seen one → IsStaged rs r (seen two)
  staged one two torn holds same = subst (IsStaged rs r) (sym same) (written_behind limit rs r end bytes (seen old) added at_rest room (seen one) torn holds)

  pub opened : (two three : D) → LeavesOnly moment left_since old two P → IsStaged rs r (seen two) → Only (seen two) (may_leave two) → Follows (IsTorn end 1) (may_leave two) (may_leave three)
      → Time two three
      → LeavesOnly moment left_since old three P
  opened two three so_far is_staged only_staged crash time =
      goes_on moment left_since old two three P (may_leave three) so_far time
      (λ c now. gate_crash limit rs r end bytes (seen old) added at_rest room (seen two) is_staged (may_leave two) (may_leave three) only_staged crash c now)

  pub ended : (two three four : D) → LeavesOnly moment left_since old three P → IsStaged rs r (seen two) → Only (seen two) (may_leave two) → Follows (IsTorn end 1) (may_leave two) (may_leave three)
      → NoMore (may_leave three) (may_leave four) → Time three four → LeavesOnly moment left_since old four P
  ended two three four so_far is_staged only_staged crash no_more time =
      goes_on moment left_since old three four P (may_leave four) so_far time
      (λ c now. gate_crash limit rs r end bytes (seen old) added at_rest room (seen two) is_staged (may_leave two) (may_leave three) only_staged crash c (no_more c now))

  pub rests : (two three four : D) → IsStaged rs r (seen two) → IsTorn end 1 (seen two) (seen three) → Holds end (1 ∷ []) (seen three) → seen four ≡ seen three
      → IsAtRest limit (rs ++ r ∷ []) (end + length bytes) (seen four)
  rests two three four is_staged torn holds same =
      subst (IsAtRest limit (rs ++ r ∷ []) (end + length bytes)) (sym same) (written_gate limit rs r end bytes (seen old) added at_rest room (seen two) is_staged (seen three) torn holds)
