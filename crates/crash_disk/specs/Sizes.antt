-- How many bytes, calls and reads a disk has room for.
use Rattle.std.specs.Prelude.{ℕ, ◌≤◌}
use Rattle.crash_disk.specs.declared.room.Room.{Room}
use Rattle.crash_disk.specs.declared.room.Room.TheVariants.{Reserved, Growing}

-- the capacity of a disk for which none is told
abbrev pub default_capacity : ℕ
default_capacity = 1048576

-- the writes and syncs, and the bytes of all writes, for which a log reserves memory
abbrev pub reserved_calls : ℕ
reserved_calls = 262147

abbrev pub reserved_bytes : ℕ
reserved_bytes = 2097152

-- a disk in memory promises the first so many of its calls where they read
abbrev pub promised_reads : ℕ
promised_reads = 4294967295

-- a log may hold so many writes and syncs, and so many bytes
abbrev pub MayHold : Room → ℕ → ℕ → Type 0
MayHold Reserved calls bytes = (calls ≤ reserved_calls) × (bytes ≤ reserved_bytes)
MayHold Growing calls bytes = Unit {0}

-- how many writes and syncs, and how many bytes, a disk in memory promises
abbrev pub promised_calls : Room → ℕ
promised_calls Reserved = reserved_calls
promised_calls Growing = 0

abbrev pub promised_bytes : Room → ℕ
promised_bytes Reserved = reserved_bytes
promised_bytes Growing = 0
