use Rattle.std.proofs.Common.{arith, ap, length-append, length, take, ◌∷◌, []}
use Rattle.std.specs.Int.{w32, to_be_bytes}
use Rattle.std.proofs.lemmas.List.{length-take}
use Rattle.record_journal.specs.Format.{entries}
use Rattle.record_journal.proofs.Written.{grows, fit_more}
use Rattle.record_journal.proofs.Spelled.{length-entries}
use Rattle.record_journal.proofs.record.encode.Goals as goal

pub loop-change-preserved : goal.loop-change-preserved
loop-change-preserved c =
    let i = c.loop-change.invariant in
    record {
      written = grows (to_be_bytes w32 (length c.args.changes.now)) _ _ c.args.changes.now c.loop-change.change-index _ c.loop-change-test.true i.written c.in_ok-put_change.ensures.put;
      fit = fit_more c.args.changes.now c.loop-change.change-index _ c.loop-change-test.true i.fit c.put_change.ensures.fits;
    }

pub returns-clause-length : goal.returns-clause-length
returns-clause-length c =
    let front = to_be_bytes w32 (length c.args.changes.now) in
    let done = take c.loop-change.change-index c.args.changes.now in
    omega (
      arith,
      ap length c.in_ok-push.ensures.items,
      length-append c.loop-change.bytes.items (0 ∷ []),
      ap length c.loop-change.invariant.written,
      length-append front (entries done),
      length-entries done,
      length-take c.loop-change.change-index c.args.changes.now,
    )
