-- A source and a sink in memory: what they hold, and what one call answers and leaves.
use Rattle.std.specs.Prelude.{ℕ, ◌-◌, ◌==◌, min, Bool, not, ◌&&◌, ◌||◌, List, ◌++◌, length, take, drop, Result, Ok, Err, if◌then◌else◌}
use Rattle.std.specs.List.{list_any}
use Rattle.teb_io.specs.declared.Failed.{Failed}
use Rattle.teb_io.specs.Faults.{next}

pub record SourceState : Type 0 where
  pub left : List ℕ
  pub piece : ℕ
  pub fail : List ℕ
  pub calls : ℕ
  pub faults : ℕ

pub record SinkState : Type 0 where
  pub written : List ℕ
  pub room : ℕ
  pub fail : List ℕ
  pub calls : ℕ
  pub faults : ℕ

abbrev failed : Failed
failed = record {}

-- the call is one of those that fail
abbrev pub is_named : List ℕ → ℕ → Bool
is_named fail call = list_any (λ n. n == call) fail

-- the next read is one of them
abbrev pub read_fails : SourceState → Bool
read_fails s = is_named s.fail (next s.calls)

-- how many bytes it gives else, into a buffer of n
abbrev pub read_count : SourceState → ℕ → ℕ
read_count s n = min (min s.piece n) (length s.left)

abbrev pub read_answer : SourceState → ℕ → Result ℕ Failed
read_answer s n = if read_fails s then Err failed else Ok (read_count s n)

abbrev pub buffer_after : SourceState → List ℕ → List ℕ
buffer_after s buf = let n = read_count s (length buf) in if read_fails s then buf else take n s.left ++ drop n buf

abbrev pub after_read : SourceState → ℕ → SourceState
after_read s n = if read_fails s then record s { calls = next s.calls; faults = next s.faults } else record s { left = drop (read_count s n) s.left; calls = next s.calls }

-- how many of n bytes fit
abbrev pub write_count : SinkState → ℕ → ℕ
write_count s n = min n (s.room - length s.written)

-- the next write is one that fails, or has bytes and finds no room
abbrev pub write_fails : SinkState → List ℕ → Bool
write_fails s bytes = is_named s.fail (next s.calls) || (write_count s (length bytes) == 0 && not (length bytes == 0))

abbrev pub write_answer : SinkState → List ℕ → Result ℕ Failed
write_answer s bytes = if write_fails s bytes then Err failed else Ok (write_count s (length bytes))

abbrev pub after_write : SinkState → List ℕ → SinkState
after_write s bytes = if write_fails s bytes then record s { calls = next s.calls; faults = next s.faults } else record s {
  written = s.written ++ take (write_count s (length bytes)) bytes;
  calls = next s.calls;
}
