use Rattle.std.proofs.Common.{◌≡◌, length, rules}
use Rattle.record_journal.proofs.Reading.{closed_empty, closed_gate}
use Rattle.record_journal.proofs.read.opened.Goals as goal

pub returns-then-is_empty-clause-closed : goal.returns-then-is_empty-clause-closed
returns-then-is_empty-clause-closed c is at =
    let none : length c.args.bytes.now ≡ 0 = search rules in
    closed_empty c.args.bytes.now at none

pub returns-then-gate-ne1-clause-closed : goal.returns-then-gate-ne1-clause-closed
returns-then-gate-ne1-clause-closed c is at = closed_gate c.args.bytes.now _ at (search rules) c.split_at.ensures.front c.if-gate-ne1.true
