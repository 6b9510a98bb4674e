-- Why a store in a file does not answer.
use Rattle.std.specs.Prelude.{◌≡◌, ◌⊎◌, ◌<◌, ◌+◌, ◌-◌, ◌||◌, ℕ, true, false, length, Option, Some, None}
use Rattle.teb_rules.specs.declared.names.Request.{Request}
use Rattle.commit_journal.specs.Kept.{IsFull}
use Rattle.epoch_journal.specs.Layout.{half_size}
use Rattle.epoch_store.specs.Gathering.{size_of}
use Rattle.engine_store.specs.Next.{HasNoRoom}
use Rattle.tebaldi_c.specs.Shelves.{Filed}

-- calls wait to be performed, or commits for their calls
abbrev pub HasWaiting : Filed → Type 0
HasWaiting f = (0 < f.file.waiting) ⊎ (0 < length f.file.gathered)

abbrev pub HasCalls : Filed → Type 0
HasCalls f = 0 < f.file.waiting

-- a call on the file has failed, or one of the disk in memory
abbrev pub IsStopped : Filed → Type 0
IsStopped f = (f.file.failed || f.file.journal.stopped) ≡ true

-- calls wait, or commits for theirs, and no call has failed
abbrev pub IsOnlyWaiting : Filed → Type 0
IsOnlyWaiting f = ((f.file.failed || f.file.journal.stopped) ≡ false) × HasWaiting f

-- the request would commit what the rest of this epoch's part of the file may not hold, beside the commits that wait
abbrev pub IsFullFor : ℕ → Request → Filed → Type 0
IsFullFor s r f = IsFull f.engine.events (half_size f.file.journal.layout.capacity - (f.file.journal.end + size_of f.file.gathered)) (record { 0 = s }) r

abbrev pub IsFullForForm : ℕ → Option Request → Filed → Type 0
IsFullForForm s None f = ⊥
IsFullForForm s (Some r) f = IsFullFor s r f

-- the rows do not fit the file
abbrev pub HasNoRoomForRows : Filed → Type 0
HasNoRoomForRows f = HasNoRoom f.file.journal.layout f.engine
