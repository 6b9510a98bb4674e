use Rattle.std.proofs.Common.{◌≡◌, ◌+◌, ◌++◌, take, vec_len}
use Rattle.shop_load.specs.Loads.{asked_by, numbered}
use Rattle.shop_load.proofs.lines.add_requests.Given as goal

-- the lines of the requests so far
abbrev pub invariant-loop-request : goal.invariant-loop-request
invariant-loop-request l = record {
  lines : l.lines.items ≡ l.fn.lines.items ++ numbered (vec_len l.fn.lines + 1) (asked_by l.session (take l.request-index l.requests));
  len : vec_len l.lines ≡ vec_len l.fn.lines + l.request-index;
}
