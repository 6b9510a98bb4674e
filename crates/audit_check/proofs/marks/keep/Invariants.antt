use Rattle.std.proofs.Common.{◌≡◌, ℕ, ◌+◌, ◌-◌, length}
use Rattle.audit_check.specs.Marks.{list_at}
use Rattle.audit_check.proofs.marks.keep.Given as goal

abbrev pub invariant-grow : goal.invariant-grow
invariant-grow l = (n : ℕ) → list_at l.lists.items n ≡ list_at l.initial.lists.items n

abbrev pub decreases-grow : goal.decreases-grow
decreases-grow l = l.at + 1 - length l.lists.items
