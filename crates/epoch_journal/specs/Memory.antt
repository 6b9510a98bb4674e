-- Memory for the next record of a journal.
use Rattle.std.specs.Prelude.{ℕ, ◌+◌}
use Rattle.crash_disk.specs.Spare.{Spare, Covers}
use Rattle.crash_disk.specs.declared.spare.Memory.{Memory}
use Rattle.epoch_journal.specs.Layout.{half_at}
use Rattle.epoch_journal.specs.State.{JournalState}

-- the disk has memory for a record whose body has n bytes, once it has taken this
abbrev pub IsForRecord : {D : Type 0} → (D → Memory → Spare) → ℕ → Memory → JournalState D → Type 0
IsForRecord spare_with n memory j = Covers (spare_with j.disk memory) 4 (n + 1) (half_at j.layout.capacity j.half + j.end + 1 + n)
