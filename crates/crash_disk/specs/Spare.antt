-- Memory for the calls of a disk that are to come.
use Rattle.std.specs.Prelude.{◌≡◌, ℕ, ◌+◌, ◌≤◌, max}
use Rattle.crash_disk.specs.declared.room.Room.{Room}
use Rattle.crash_disk.specs.declared.room.Room.TheVariants.{Reserved, Growing}

-- There is memory for so many writes and syncs, for so many bytes in these writes, and for a disk of `end` bytes.
pub record Spare : Type 0 where
  pub calls : ℕ
  pub bytes : ℕ
  pub end : ℕ

-- it lasts for k calls that write n bytes, none of them past `end`
pub record Covers (s : Spare) (k n end : ℕ) : Type 0 where
  pub calls : k ≤ s.calls
  pub bytes : n ≤ s.bytes
  pub within : end ≤ s.end

-- there is no less memory
pub record IsNoLess (old new : Spare) : Type 0 where
  pub calls : old.calls ≤ new.calls
  pub bytes : old.bytes ≤ new.bytes
  pub end : old.end ≤ new.end

-- k calls at most that write n bytes at most, none of them past `end`: they use up no more than that, and where there is memory for them, no
-- call is refused for want of it
pub record UsesUp (k n end : ℕ) (old new : Spare) (before now : ℕ) : Type 0 where
  pub calls : old.calls ≤ new.calls + k
  pub bytes : old.bytes ≤ new.bytes + n
  pub stays : old.end ≤ new.end
  pub enough : Covers old k n end → now ≡ before

-- For how much a log has memory, once it has taken some for `more`: one that grows has the greater of both, and one whose memory is reserved has it
-- already.
abbrev pub raised : Room → ℕ → ℕ → ℕ
raised Reserved has more = has
raised Growing has more = max has more
