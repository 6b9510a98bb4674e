-- What a log of writes and syncs tells of a disk in memory: its bytes, and the images that a crash may leave.
use Rattle.std.specs.Prelude.{◌≡◌, ◌⊎◌, ℕ, ◌+◌, ◌-◌, ◌≤◌, List, [], ◌∷◌, ◌++◌, length, take, drop, replicate}
use Rattle.crash_disk.specs.declared.call.Call.{Call}
use Rattle.crash_disk.specs.declared.call.Call.TheVariants as call
use Rattle.crash_disk.specs.declared.room.Room.{Room}
use Rattle.crash_disk.specs.Disk.{IsTorn}

-- a write with its bytes, or a sync
pub data Step : Type 0 where
  Wrote : ℕ → List ℕ → Step
  Synced : Step

-- what contracts see of a log: its steps, the first one first, how much it may hold, and for how many steps and bytes in all it surely has memory
pub record Logged : Type 0 where
  pub steps : List Step
  pub room : Room
  pub sure_calls : ℕ
  pub sure_bytes : ℕ

-- the bytes of the writes stand one after the other
abbrev pub steps : List Call → List ℕ → List Step
steps [] data_ = []
steps (call.Write at n ∷ cs) data_ = Wrote at (take n data_) ∷ steps cs (drop n data_)
steps (call.Sync ∷ cs) data_ = Synced ∷ steps cs data_

-- a call with the bytes that it wrote
abbrev pub step_of : Call → List ℕ → Step
step_of (call.Write at n) bytes = Wrote at bytes
step_of call.Sync bytes = Synced

-- how many bytes the writes have
abbrev pub byte_count : List Step → ℕ
byte_count [] = 0
byte_count (Wrote at piece ∷ xs) = length piece + byte_count xs
byte_count (Synced ∷ xs) = byte_count xs

abbrev pub total : List Call → ℕ
total [] = 0
total (call.Write at n ∷ cs) = n + total cs
total (call.Sync ∷ cs) = total cs

-- bytes, and zeros behind them, so that there are n at least
abbrev pub padded : ℕ → List ℕ → List ℕ
padded n bytes = bytes ++ replicate (n - length bytes) 0

-- the bytes of a disk after a write: it goes over what is there, and past the end, with zeros between
abbrev pub written : ℕ → List ℕ → List ℕ → List ℕ
written at piece bytes = take at (padded (at + length piece) bytes) ++ (piece ++ drop (at + length piece) (padded (at + length piece) bytes))

abbrev pub after_step : List ℕ → Step → List ℕ
after_step bytes (Wrote at piece) = written at piece bytes
after_step bytes Synced = bytes

abbrev pub after_steps : List ℕ → List Step → List ℕ
after_steps bytes [] = bytes
after_steps bytes (x ∷ xs) = after_steps (after_step bytes x) xs

-- The images after a step: a write may have come anywhere near its end, or be made; after a sync there is what a read gives.
abbrev pub left_after : List ℕ → (List ℕ → Type 0) → Step → List ℕ → Type 0
left_after bytes left (Wrote at piece) c = ((d : List ℕ) × left d × IsTorn at (length piece) d c) ⊎ (c ≡ written at piece bytes)
left_after bytes left Synced c = c ≡ bytes

abbrev pub IsLeft : List ℕ → (List ℕ → Type 0) → List Step → List ℕ → Type 0
IsLeft bytes left [] c = left c
IsLeft bytes left (x ∷ xs) c = IsLeft (after_step bytes x) (left_after bytes left x) xs c

-- a log begins with an empty disk
abbrev pub contents : List Step → List ℕ
contents xs = after_steps [] xs

abbrev pub MayLeave : List Step → List ℕ → Type 0
MayLeave xs c = IsLeft [] (λ d. d ≡ []) xs c

-- the images of some moment from t on, by replay of the log up to there
abbrev pub LeftSince : List Step → ℕ → List ℕ → Type 0
LeftSince xs t c = (k : ℕ) × (t ≤ k) × (k ≤ length xs) × MayLeave (take k xs) c

-- what there was at the last sync, else what was kept before
abbrev pub synced_bytes : List ℕ → List ℕ → List Step → List ℕ
synced_bytes kept bytes [] = kept
synced_bytes kept bytes (Wrote at piece ∷ xs) = synced_bytes kept (written at piece bytes) xs
synced_bytes kept bytes (Synced ∷ xs) = synced_bytes bytes bytes xs

abbrev pub safe_contents : List Step → List ℕ
safe_contents xs = synced_bytes [] [] xs

-- there is one write less, the last step
pub record IsOneWriteLess (old new : List Step) : Type 0 where
  pub at : ℕ
  pub piece : List ℕ
  pub is : old ≡ new ++ Wrote at piece ∷ []

-- there is no step, or the last one is a sync
abbrev pub EndsSynced : List Step → Type 0
EndsSynced log = (log ≡ []) ⊎ ((before : List Step) × (log ≡ before ++ Synced ∷ []))
