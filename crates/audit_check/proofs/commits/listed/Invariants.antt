use Rattle.std.proofs.Common.{◌≡◌, ℕ, true, take}
use Rattle.audit_check.specs.Faults.{is_among, are_distinct_and}
use Rattle.audit_check.specs.Marks.{is_marked}
use Rattle.audit_check.proofs.commits.listed.Given as goal

abbrev pub invariant-loop-txn : goal.invariant-loop-txn
invariant-loop-txn l = record {
  marks : (t : ℕ) → is_marked l.listed.items t ≡ is_among (take l.txn-index l.txns) t;
  right : are_distinct_and (is_marked l.done) (take l.txn-index l.txns) ≡ true;
}
