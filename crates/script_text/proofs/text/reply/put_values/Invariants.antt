use Rattle.std.proofs.Common.{◌≡◌, ◌≤◌, ◌+◌, ◌*◌, ◌++◌, length, map, drop}
use Rattle.script_text.specs.Texts.{value_text}
use Rattle.script_text.specs.Puts.{spaced}
use Rattle.script_text.proofs.text.reply.put_values.Given as goal

abbrev pub invariant-loop-i : goal.invariant-loop-i
invariant-loop-i l = record {
  within : l.i ≤ length l.values;
  text : l.line ≡ spaced (map value_text (drop l.i l.values)) ++ l.initial.line;
  short : length l.line + 21 * l.i ≤ length l.initial.line + 21 * length l.values;
}

abbrev pub decreases-loop-i : goal.decreases-loop-i
decreases-loop-i l = l.i
