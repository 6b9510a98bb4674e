use Rattle.std.proofs.Common.{◌≡◌, map, take, vec_len}
use Rattle.script_text.specs.Scripts.{lines_for, session_numbers}
use Rattle.script_text.specs.Lists.{lists_in}
use Rattle.script_text.proofs.scripts.lists_of.Given as goal

abbrev pub invariant-loop-line : goal.invariant-loop-line
invariant-loop-line l = record {
  lists : lists_in l.lists.items ≡ map (lines_for (take l.line-index l.lines)) session_numbers;
  len : vec_len l.lists ≡ 256;
}
