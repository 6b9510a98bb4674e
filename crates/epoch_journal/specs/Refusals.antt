-- When a call of the disk fails only because it is refused memory.
use Rattle.std.specs.Prelude.{◌≡◌, ℕ, ◌+◌, ◌-◌, ◌<◌, ◌^◌, Result, OnOk, OnErr}
use Rattle.crash_disk.specs.Calls.{Tally}

-- A call of this disk fails only if it is refused memory, and the refusal is counted: all disks of its type tell their failures, this one has
-- no stop, and its count of refusals is not at its end.
pub record IsReliable {D : Type 0} (tells_failures : D → Type 0) (tally : D → Tally) (refusals : D → ℕ) (disk : D) : Type 0 where
  pub tells : (d : D) → tells_failures d
  pub no_stop : (tally disk).promise.stop ≡ 0
  pub counts : refusals disk < 2 ^ 64 - 1

-- Calls that succeed count no refusal. If one of a reliable disk fails, it counts one.
pub record CountsRefusals {D T E : Type 0} (tells_failures : D → Type 0) (tally : D → Tally) (refusals : D → ℕ) (old new : D) (result : Result T E) : Type 0 where
  pub granted : OnOk result (refusals new ≡ refusals old)
  pub refused : OnErr result (IsReliable tells_failures tally refusals old → refusals new ≡ refusals old + 1)
