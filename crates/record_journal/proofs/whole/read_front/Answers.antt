use Rattle.std.proofs.Common.{rules, ◌≡◌, ◌∙◌, ap, take, length, List, ℕ, min}
use Rattle.record_journal.proofs.Quiet.{whole_is}
use Rattle.record_journal.proofs.whole.read_front.Goals as goal

pub returns-clause-bytes : goal.returns-clause-bytes
returns-clause-bytes g c =
    let n = length c.deref_mut.result.now in
    let same : c.in_ok-bytes.bytes.len ≡ n = search rules in
    let limit : n ≡ min (length (g.D.Disk.seen c.args.disk.now)) c.args.most = search rules in
    whole_is c.args.most (g.D.Disk.seen c.args.disk.now) c.fill.new.buf _ n c.in_ok-bytes.bytes.len (c.in_ok-fill.ensures.filled ∙ ap (λ (l : List ℕ). take n l) c.len.ensures.seen) limit same
