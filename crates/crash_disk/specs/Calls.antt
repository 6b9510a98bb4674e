-- The calls of a disk: how many were made, and which of them are sure to succeed or to fail.
use Rattle.std.specs.Prelude.{◌≡◌, ◌⊎◌, ℕ, ◌+◌, ◌<◌, ◌≤◌, ◌^◌, Result, OnOk, OnErr, IsOk, IsErr}
use Rattle.teb_io.specs.Faults.{next}
use Rattle.crash_disk.specs.declared.room.Room.{Room}
use Rattle.crash_disk.specs.Sizes.{promised_reads, promised_calls, promised_bytes}

-- From call `stop` on all calls fail; 0 names no call. Before it a read succeeds that is one of the first `reads` calls, and a write
-- or a sync that is one of the first `writes` calls, as long as no more than `bytes` bytes are written in all.
pub record Promise : Type 0 where
  pub stop : ℕ
  pub reads : ℕ
  pub writes : ℕ
  pub bytes : ℕ

-- how many calls were made, at most how many bytes were written, and what is promised of the calls to come
pub record Tally : Type 0 where
  pub made : ℕ
  pub written : ℕ
  pub promise : Promise

-- call n comes before those that fail, or is one of them
abbrev pub IsBefore : ℕ → ℕ → Type 0
IsBefore stop n = (stop ≡ 0) ⊎ (n < stop)

abbrev pub IsFrom : ℕ → ℕ → Type 0
IsFrom stop n = (0 < stop) × (stop ≤ n)

-- the next k calls, which write n bytes, are sure to succeed; `most` is the number of the last call that is promised
pub record AreSure (most k n : ℕ) (t : Tally) : Type 0 where
  pub before : IsBefore t.promise.stop (t.made + k)
  pub promised : t.made + k ≤ most
  pub fits : t.written + n ≤ t.promise.bytes

-- one of the next k calls is sure to fail
pub record Fails (k : ℕ) (t : Tally) : Type 0 where
  pub from : IsFrom t.promise.stop (t.made + k)
  pub small : t.made + k < 2 ^ 64

-- k calls at most, which wrote n bytes at most
pub record IsUpTo (k n : ℕ) (old new : Tally) : Type 0 where
  pub made : new.made ≤ old.made + k
  pub written : new.written ≤ old.written + n
  pub promise : new.promise ≡ old.promise

-- k calls that write n bytes, up to the first that fails
pub record AreCalls {T E : Type 0} (most k n : ℕ) (old new : Tally) (result : Result T E) : Type 0 where
  pub up_to : IsUpTo k n old new
  pub all : OnOk result (old.made + k < 2 ^ 64 → new.made ≡ old.made + k)
  pub sure : AreSure most k n old → IsOk result
  pub fails : Fails k old → IsErr result

-- What a call counts. One that succeeds counts no refusal. One that fails counts one fault, and one refusal at most. If the disk fails only at its
-- stop or because it is refused memory (`tells`), then a call that fails counts a refusal exactly if it comes before the stop.
pub record Counts {T E : Type 0} (tells : Type 0) (calls : Tally) (faults faults' refusals refusals' : ℕ) (result : Result T E) : Type 0 where
  pub granted : OnOk result (refusals' ≡ refusals)
  pub fault : OnErr result (faults' ≡ next faults)
  pub once : (refusals' ≡ refusals) ⊎ (refusals' ≡ next refusals)
  pub refused : OnErr result (tells → IsBefore calls.promise.stop (next calls.made) → refusals' ≡ next refusals)
  pub stopped : tells → IsFrom calls.promise.stop (next calls.made) → refusals' ≡ refusals

-- the same, which a proof sees only if it unfolds it
unfoldable pub IsCounted : {T E : Type 0} → Type 0 → Tally → ℕ → ℕ → ℕ → ℕ → Result T E → Type 0
IsCounted tells calls faults faults' refusals refusals' result = Counts tells calls faults faults' refusals refusals' result

-- A disk in memory promises the calls before its stop: those that read, and the writes and syncs for which memory is reserved.
abbrev pub memory_tally : ℕ → ℕ → ℕ → Room → Tally
memory_tally made written stop room =
    record { made = made; written = written; promise = record { stop = stop; reads = promised_reads; writes = promised_calls room; bytes = promised_bytes room } }
