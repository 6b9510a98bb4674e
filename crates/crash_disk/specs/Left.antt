-- What is left of a disk in memory after a crash that drops all that was not safe.
use Rattle.std.specs.Prelude.{◌≡◌, ◌≤◌, ℕ, List}
use Rattle.crash_disk.specs.Log.{contents, safe_contents, MayLeave, byte_count}
use Rattle.crash_disk.specs.declared.memory.MemDisk.{MemDisk}

-- its bytes are those that were safe, and a crash leaves nothing else; no call is sure to fail; as many calls were made
pub record IsLeft (old left : MemDisk) : Type 0 where
  pub contents : contents left.log.steps ≡ safe_contents old.log.steps
  pub only : (c : List ℕ) → MayLeave left.log.steps c → c ≡ safe_contents old.log.steps
  pub capacity : left.capacity ≡ old.capacity
  pub room : left.log.room ≡ old.log.room
  pub stop : left.counter.stop ≡ 0
  pub made : left.counter.made ≡ old.counter.made
  pub faults : left.counter.faults ≡ old.counter.faults
  pub refusals : left.counter.refusals ≡ old.counter.refusals
  pub written : byte_count left.log.steps ≤ byte_count old.log.steps
