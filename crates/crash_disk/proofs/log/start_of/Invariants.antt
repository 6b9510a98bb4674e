use Rattle.std.proofs.Common.{◌≡◌, ◌+◌, drop}
use Rattle.crash_disk.specs.Log.{total}
use Rattle.crash_disk.proofs.log.start_of.Given as goal

abbrev pub invariant-loop-call : goal.invariant-loop-call
invariant-loop-call l = record {
  counted : l.start + total l.fn.calls ≡ l.fn.end + total (drop l.call-index l.calls);
}
