use Rattle.std.proofs.Common.{◌≡◌, ◌+◌, ◌++◌}
use Rattle.std.specs.List.{flat_map}
use Rattle.teb_rules.specs.Tree.{below}
use Rattle.shell_lines.specs.Sessions.{session_text}
use Rattle.shell_lines.proofs.sessions.put_holders.Given as goal

abbrev pub invariant-loop-i : goal.invariant-loop-i
invariant-loop-i l = l.out.items ≡ l.fn.out.items ++ flat_map (λ i. session_text l.history.events l.names l.waits (i + 1)) (below l.i)
