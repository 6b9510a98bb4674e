use Rattle.std.proofs.Common.{reverse}
use Rattle.teb_rules.proofs.lemmas.history.FirstPuts.{IsWalked}
use Rattle.teb_rules.proofs.history.history.History.put_at.Given as goal

abbrev pub invariant-loop-end : goal.invariant-loop-end
invariant-loop-end l = IsWalked l.fn.t.0 l.cell (reverse l.self-inside.events.items) l.end l.first

abbrev pub decreases-loop-end : goal.decreases-loop-end
decreases-loop-end l = l.end
