use Rattle.std.proofs.Common.{◌≡◌, ◌≤◌, length, drop, vec_capacity}
use Rattle.crash_disk.specs.Log.{after_steps, contents, steps, total}
use Rattle.crash_disk.proofs.log.Log.replay.Given as goal

abbrev pub invariant-loop-call : goal.invariant-loop-call
invariant-loop-call l = record {
  told : after_steps l.image.items (steps (drop l.call-index l.call-items) l.rest) ≡ contents l.fn.self.steps;
  counted : total (drop l.call-index l.call-items) ≡ length l.rest;
  capacity : vec_capacity l.fn.image ≤ vec_capacity l.image;
}
