use Rattle.std.proofs.Common.{◌≡◌, ◌*◌, ◌≤◌, vec_len}
use Rattle.shop_load.specs.Loads.{loaded_lines, state}
use Rattle.shop_load.proofs.lines.loaded_lines.Given as goal

-- the lines of the transactions so far, after three draws for each
abbrev pub invariant-loop-i : goal.invariant-loop-i
invariant-loop-i l = record {
  lines : l.lines.items ≡ loaded_lines l.number l.i;
  draws : l.draws.state ≡ state l.number (3 * l.i);
  few : vec_len l.lines ≤ 5 * l.i;
}
