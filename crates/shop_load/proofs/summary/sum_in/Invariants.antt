use Rattle.std.proofs.Common.{◌≡◌, ◌*◌, ◌^◌, ◌+ℤ◌, ◌≤ℤ◌, pos, drop}
use Rattle.shop_load.specs.Summaries.{sum_in}
use Rattle.shop_load.proofs.summary.sum_in.Given as goal

-- the sum so far and that of the remaining rows make the whole sum; the sum so far is within the range of as many 64-bit values
abbrev pub invariant-loop-row : goal.invariant-loop-row
invariant-loop-row l = record {
  sum : (l.sum +ℤ sum_in l.table.0 (drop l.row-index l.rows)) ≡ sum_in l.table.0 l.rows;
  low : pos 0 ≤ℤ (l.sum +ℤ pos (l.row-index * 2 ^ 63));
  high : l.sum ≤ℤ pos (l.row-index * 2 ^ 63);
}
