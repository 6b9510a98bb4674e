use Rattle.std.proofs.Common.{◌≡◌, eqb, drop, find}
use Rattle.batch_book.specs.declared.members.Member.{Member}
use Rattle.batch_book.proofs.members.first_on.Given as goal

abbrev pub invariant-loop-member : goal.invariant-loop-member
invariant-loop-member l = find (λ (m : Member). eqb m.side l.side) (drop l.member-index l.members) ≡ find (λ (m : Member). eqb m.side l.side) l.members
