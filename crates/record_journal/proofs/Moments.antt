-- A run of device calls, extended.
use Rattle.std.proofs.Common.{◌≡◌, inl, inr, ⊎_elim, sym, subst, ◌∙◌, ℕ, List, arith}
use Rattle.crash_disk.specs.Disk.{Elapses, LeavesOnly, NoMore, Only}

module _ {D : Type 0} (moment : D → ℕ) (left_since : D → ℕ → List ℕ → Type 0) where
  -- no call has been made
  pub started : (old : D) (P : List ℕ → Type 0) → ((c : List ℕ) → left_since old (moment old) c → P c) → LeavesOnly moment left_since old old P
  started old P here = record { later = omega arith; each = here; before = λ t c le left. inl left }

  -- one more call, after which every image that a crash may leave has P
  pub goes_on : (old mid new : D) (P may_leave : List ℕ → Type 0) → LeavesOnly moment left_since old mid P → Elapses (moment mid) (moment new) (left_since mid) (left_since new) may_leave
      → ((c : List ℕ) → may_leave c → P c) → LeavesOnly moment left_since old new P
  goes_on old mid new P may_leave so_far time here = record {
    later = omega (arith, so_far.later, time.later);
    each = λ c left. ⊎_elim (so_far.each c) (here c) (time.nothing_else (moment old) c so_far.later left);
    before = λ t c le left. ⊎_elim (so_far.before t c le) (λ now. inr (here c now)) (time.nothing_else t c (omega (arith, le, so_far.later)) left);
  }

  -- P may be replaced by what it implies
  pub weaker : (old new : D) (P Q : List ℕ → Type 0) → ((c : List ℕ) → P c → Q c) → LeavesOnly moment left_since old new P → LeavesOnly moment left_since old new Q
  weaker old new P Q implies only = record {
    later = only.later;
    each = λ c left. implies c (only.each c left);
    before = λ t c le left. ⊎_elim (λ was. inl was) (λ now. inr (implies c now)) (only.before t c le left);
  }

  -- the calls begin with a disk that differs from an old one in its memory only
  pub since_before : (old mid new : D) (P : List ℕ → Type 0) → moment mid ≡ moment old → ((t : ℕ) (c : List ℕ) → left_since mid t c → left_since old t c) → LeavesOnly moment left_since mid new P
      → LeavesOnly moment left_since old new P
  since_before old mid new P clock time only = record {
    later = omega (arith, only.later, clock);
    each = λ c left. only.each c (subst (λ (t : ℕ). left_since new t c) (sym clock) left);
    before = λ t c le left. ⊎_elim (λ was. inl (time t c was)) (λ now. inr now) (only.before t c (omega (arith, le, clock)) left);
  }

pub still_only : (file file' : List ℕ) (may may' : List ℕ → Type 0) → file' ≡ file → NoMore may may' → Only file may → Only file' may'
still_only file file' may may' same crash only c left = only c (crash c left) ∙ sym same
