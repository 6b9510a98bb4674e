use Rattle.std.proofs.Common.{rules, ◌≡◌, drop, length, arith, length-drop}
use Rattle.epoch_journal.proofs.Ranges.{range_is}
use Rattle.epoch_journal.proofs.range.read_range.Goals as goal

pub returns-clause-bytes : goal.returns-clause-bytes
returns-clause-bytes g c =
    let n = length c.deref_mut.result.now in
    let same : c.in_ok-bytes.bytes.len ≡ n = search rules in
    let count : n ≡ c.args.count = search rules in
    range_is (drop c.args.at (g.D.Disk.seen c.args.disk.now)) c.fill.new.buf _ n c.in_ok-bytes.bytes.len c.args.count c.in_ok-fill.ensures.filled count same
    (omega (arith, count, c.requires.within, length-drop c.args.at (g.D.Disk.seen c.args.disk.now)))
