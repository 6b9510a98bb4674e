use Rattle.std.proofs.Common.{[], refl, arith, ap, length, ◌∙◌}
use Rattle.crash_disk.proofs.Groups.{up_to_then}
use Rattle.crash_disk.specs.Disk.{IsTorn}
use Rattle.record_journal.proofs.Moments.{weaker}
use Rattle.epoch_journal.specs.Layout.{layout}
use Rattle.epoch_journal.specs.Halves.{HasRecords}
use Rattle.epoch_journal.proofs.Moments.{and_then}
use Rattle.epoch_journal.proofs.Sizes.{length-front}
use Rattle.epoch_journal.proofs.Settling.{first_byte, front_bytes, fronted}
use Rattle.epoch_journal.proofs.begin.write_front.Goals as goal

pub write_safely-requires-2 : goal.write_safely-requires-2
write_safely-requires-2 g c = omega (arith, ap length c.requires.front, length-front c.args.capacity, c.requires.small.0, c.requires.small.1, c.write_safely.ensures.stays)

pub returns-in_err-write_safely-clause-any_moment : goal.returns-in_err-write_safely-clause-any_moment
returns-in_err-write_safely-clause-any_moment g c label short only =
    let d = g.D.Disk in
    let l = layout c.args.capacity label in
    let f = d.seen c.args.disk.now in
    weaker d.moment d.left_since c.args.disk.now c.write_safely.new.disk (IsTorn 0 1 f) (HasRecords l [])
    (λ image torn. first_byte l [] f refl short image torn)
    (c.write_safely.ensures.any_moment only)

pub returns-in_err-write_safely-2-clause-any_moment : goal.returns-in_err-write_safely-2-clause-any_moment
returns-in_err-write_safely-2-clause-any_moment g c label short only =
    let d = g.D.Disk in
    let l = layout c.args.capacity label in
    let f = d.seen c.args.disk.now in
    let mid = d.seen c.write_safely.new.disk in
    and_then d.moment d.left_since c.args.disk.now c.write_safely.new.disk c.write_safely-2.new.disk (IsTorn 0 1 f) (IsTorn 1 (length c.args.front_bytes.now) mid) (HasRecords l [])
    (c.write_safely.ensures.any_moment only)
    (c.write_safely-2.ensures.any_moment c.in_ok-write_safely.ensures.durable)
    (λ image torn. first_byte l [] f refl short image torn)
    (λ image torn. front_bytes l [] f refl short mid c.args.front_bytes.now c.write_safely.ensures.torn c.requires.front image torn)

pub returns-clause-any_moment : goal.returns-clause-any_moment
returns-clause-any_moment g c label short only =
    let d = g.D.Disk in
    let l = layout c.args.capacity label in
    let f = d.seen c.args.disk.now in
    let mid = d.seen c.write_safely.new.disk in
    and_then d.moment d.left_since c.args.disk.now c.write_safely.new.disk c.write_safely-2.new.disk (IsTorn 0 1 f) (IsTorn 1 (length c.args.front_bytes.now) mid) (HasRecords l [])
    (c.write_safely.ensures.any_moment only)
    (c.write_safely-2.ensures.any_moment c.in_ok-write_safely.ensures.durable)
    (λ image torn. first_byte l [] f refl short image torn)
    (λ image torn. front_bytes l [] f refl short mid c.args.front_bytes.now c.write_safely.ensures.torn c.requires.front image torn)

pub returns-clause-settled : goal.returns-clause-settled
returns-clause-settled g c label short only =
    let d = g.D.Disk in
    let l = layout c.args.capacity label in
    let f = d.seen c.args.disk.now in
    let mid = d.seen c.write_safely.new.disk in (
      fronted l [] f refl short mid c.args.front_bytes.now c.write_safely.ensures.torn c.requires.front c.selector.result (d.seen c.write_safely-2.new.disk) c.selector.ensures
          c.in_ok-write_safely.ensures.written c.write_safely-2.ensures.torn c.in_ok-write_safely-2.ensures.written,
      c.in_ok-write_safely-2.ensures.durable,
    )

pub returns-in_err-write_safely-2-clause-calls : goal.returns-in_err-write_safely-2-clause-calls
returns-in_err-write_safely-2-clause-calls g c =
    let both = up_to_then 2 1 2 (length c.args.front_bytes.now) _ _ _ c.write_safely.ensures.calls.up_to c.write_safely-2.ensures.calls.up_to in
    let twelve = ap length c.requires.front in
    record { made = omega (arith, both.made); written = omega (arith, both.written, twelve, length-front c.args.capacity); promise = both.promise }

pub returns-clause-calls : goal.returns-clause-calls
returns-clause-calls g c =
    let both = up_to_then 2 1 2 (length c.args.front_bytes.now) _ _ _ c.write_safely.ensures.calls.up_to c.write_safely-2.ensures.calls.up_to in
    let twelve = ap length c.requires.front in
    record { made = omega (arith, both.made); written = omega (arith, both.written, twelve, length-front c.args.capacity); promise = both.promise }

pub returns-clause-granted : goal.returns-clause-granted
returns-clause-granted g c = c.in_ok-write_safely-2.ensures.refusals.granted ∙ c.in_ok-write_safely.ensures.refusals.granted
