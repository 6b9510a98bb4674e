-- Groups of calls that write nothing, one after the other.
use Rattle.std.proofs.Common.{ℕ, List, ◌∙◌, arith}
use Rattle.crash_disk.specs.Disk.{IsQuiet}
use Rattle.epoch_journal.proofs.Moments.{and_then}

pub quiet_then : {D : Type 0} (seen : D → List ℕ) (may_leave : D → List ℕ → Type 0) (moment : D → ℕ) (left_since : D → ℕ → List ℕ → Type 0) (faults capacity : D → ℕ) (old mid new : D)
    → IsQuiet seen may_leave moment left_since faults capacity old mid → IsQuiet seen may_leave moment left_since faults capacity mid new
    → IsQuiet seen may_leave moment left_since faults capacity old new
quiet_then seen may_leave moment left_since faults capacity old mid new one two = record {
  same = two.same ∙ one.same;
  crash = λ c left. one.crash c (two.crash c left);
  any_moment = and_then moment left_since old mid new (may_leave old) (may_leave mid) (may_leave old) one.any_moment two.any_moment (λ c now. now) one.crash;
  later = omega (arith, one.later, two.later);
  stays = two.stays ∙ one.stays;
}
