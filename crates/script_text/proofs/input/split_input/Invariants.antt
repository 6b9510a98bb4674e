use Rattle.std.proofs.Common.{◌≡◌, ◌≤◌, ◌+◌, ◌-◌, length, take, drop}
use Rattle.script_text.specs.Input.{parts_of}
use Rattle.script_text.proofs.InputSteps.{behind}
use Rattle.script_text.proofs.input.split_input.Given as goal

abbrev pub invariant-loop-at : goal.invariant-loop-at
invariant-loop-at l = record {
  within : l.at ≤ length l.bytes;
  rest : parts_of l.bytes ≡ behind (take l.at l.bytes) (parts_of (drop l.at l.bytes));
}

abbrev pub decreases-loop-at : goal.decreases-loop-at
decreases-loop-at l = length l.bytes + 1 - l.at
