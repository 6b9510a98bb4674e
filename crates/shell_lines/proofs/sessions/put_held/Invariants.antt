use Rattle.std.proofs.Common.{◌≡◌, ◌+◌, ◌++◌}
use Rattle.std.specs.List.{flat_map}
use Rattle.teb_rules.specs.Tree.{below}
use Rattle.shell_lines.specs.Sessions.{held_word}
use Rattle.shell_lines.proofs.sessions.put_held.Given as goal

abbrev pub invariant-loop-i : goal.invariant-loop-i
invariant-loop-i l = l.out.items ≡ l.fn.out.items ++ flat_map (λ i. held_word l.history.events (i + 1)) (below l.i)
