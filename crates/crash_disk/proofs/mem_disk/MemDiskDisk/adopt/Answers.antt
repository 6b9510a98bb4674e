use Rattle.std.proofs.Common.{subst}
use Rattle.crash_disk.specs.Log.{Logged, MayLeave, LeftSince}
use Rattle.crash_disk.proofs.mem_disk.MemDiskDisk.adopt.Goals as goal

pub returns-clause-crash : goal.returns-clause-crash
returns-clause-crash c image left = subst (λ (l : Logged). MayLeave l.steps image) c.adopt.ensures left

pub returns-clause-time : goal.returns-clause-time
returns-clause-time c t image left = subst (λ (l : Logged). LeftSince l.steps t image) c.adopt.ensures left
