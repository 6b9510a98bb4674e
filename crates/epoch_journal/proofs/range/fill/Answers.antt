use Rattle.std.proofs.Common.{◌<◌, ◌+◌, ◌∙◌, drop, refl, arith, rules, subst}
use Rattle.crash_disk.specs.Disk.{IsRead}
use Rattle.crash_disk.proofs.Groups.{up_to_then}
use Rattle.record_journal.proofs.Quiet.{quieter, filled_part, part_within}
use Rattle.epoch_journal.proofs.Ranges.{shifted}
use Rattle.epoch_journal.proofs.Refusing.{counted}
use Rattle.epoch_journal.proofs.range.fill.Goals as goal

pub loop-filled-preserved : goal.loop-filled-preserved
loop-filled-preserved g c =
    let d = g.D.Disk in
    let l = c.loop-filled in
    let i = l.invariant in
    let some : 0 < c.in_ok-n.n = search rules in
    let both = up_to_then l.filled 0 1 0 _ _ _ i.calls c.read_at.ensures.calls.up_to in
    let read = shifted (d.seen c.args.disk.now) c.read_at.new.buf c.args.at l.filled (c.args.at + l.filled) c.in_ok-n.n refl
    (subst (λ file. IsRead file (c.args.at + l.filled) c.in_ok-n.n c.read_at.new.buf) i.quiet.same c.in_ok-n.ensures.read) in
    record {
      within = part_within l.buf c.read_at.new.buf _ l.filled c.in_ok-n.n i.within read.fits;
      front = filled_part (drop c.args.at (d.seen c.args.disk.now)) l.buf c.read_at.new.buf _ l.filled c.in_ok-n.n i.front i.within read;
      granted = (counted _ _ _ _ _ _ _ c.in_ok-n.ensures.count).granted ∙ i.granted;
      calls = record { made = omega (arith, both.made, some); written = both.written; promise = both.promise };
      quiet = quieter d.seen d.may_leave d.moment d.left_since d.faults d.capacity _ l.disk c.read_at.new.self i.quiet c.read_at.ensures.seen c.read_at.ensures.crash c.read_at.ensures.time
          c.read_at.ensures.cause.later c.read_at.ensures.capacity;
    }
