use Rattle.std.proofs.Common.{◌≡◌, filter, map}
use Rattle.std.specs.List.{range_with_len}
use Rattle.script_text.specs.Scripts.{session}
use Rattle.script_text.specs.Lists.{lists_in, has_list}
use Rattle.script_text.proofs.scripts.sessions_in.Given as goal

abbrev pub invariant-loop-number : goal.invariant-loop-number
invariant-loop-number l = l.sessions.items ≡ filter (has_list (lists_in l.lists)) (map session (range_with_len 0 l.number))
