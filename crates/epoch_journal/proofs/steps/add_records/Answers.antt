use Rattle.std.proofs.Common.{arith, ◌+◌, ◌∙◌, length}
use Rattle.crash_disk.specs.Disk.{IsTorn}
use Rattle.record_journal.proofs.Moments.{weaker}
use Rattle.epoch_journal.specs.Layout.{layout}
use Rattle.epoch_journal.specs.Halves.{IsOneOf}
use Rattle.crash_disk.proofs.Spares.{uses_then, uses_less}
use Rattle.epoch_journal.proofs.Moments.{and_then}
use Rattle.epoch_journal.proofs.Refusing.{failed, refused_then}
use Rattle.epoch_journal.proofs.Adding.{behind, at_mark, rests}
use Rattle.epoch_journal.proofs.Sizes.{both_fit, small_half}
use Rattle.epoch_journal.proofs.steps.add_records.Goals as goal

pub returns-in_err-write_safely-clause-any_moment : goal.returns-in_err-write_safely-clause-any_moment
returns-in_err-write_safely-clause-any_moment g c label rs more added resting only =
    let d = g.D.Disk in
    let l = layout c.args.capacity label in
    let f = d.seen c.args.disk.now in
    let n = length c.args.bodies.now in
    let p = c.base.result + c.args.end + 1 in
    weaker d.moment d.left_since c.args.disk.now c.write_safely.new.disk (IsTorn p n f) (IsOneOf l c.args.half rs more)
    (λ image torn. behind l c.args.half rs more c.args.end c.args.bodies.now f added c.requires.some resting c.requires.room p image (omega (arith, c.base.ensures.value)) torn)
    (c.write_safely.ensures.any_moment only)

pub returns-in_err-write_safely-2-clause-any_moment : goal.returns-in_err-write_safely-2-clause-any_moment
returns-in_err-write_safely-2-clause-any_moment g c label rs more added resting only =
    let d = g.D.Disk in
    let l = layout c.args.capacity label in
    let f = d.seen c.args.disk.now in
    let mid = d.seen c.write_safely.new.disk in
    let n = length c.args.bodies.now in
    let p = c.base.result + c.args.end + 1 in
    let q = c.base.result + c.args.end in
    and_then d.moment d.left_since c.args.disk.now c.write_safely.new.disk c.write_safely-2.new.disk (IsTorn p n f) (IsTorn q 1 mid) (IsOneOf l c.args.half rs more)
    (c.write_safely.ensures.any_moment only)
    (c.write_safely-2.ensures.any_moment c.in_ok-write_safely.ensures.durable)
    (λ image torn. behind l c.args.half rs more c.args.end c.args.bodies.now f added c.requires.some resting c.requires.room p image (omega (arith, c.base.ensures.value)) torn)
    (λ image torn. at_mark l c.args.half rs more c.args.end c.args.bodies.now f added c.requires.some resting c.requires.room p mid (omega (arith, c.base.ensures.value)) c.write_safely.ensures.torn
    c.in_ok-write_safely.ensures.written q image (omega (arith, c.base.ensures.value)) torn)

pub returns-clause-any_moment : goal.returns-clause-any_moment
returns-clause-any_moment g c label rs more added resting only =
    let d = g.D.Disk in
    let l = layout c.args.capacity label in
    let f = d.seen c.args.disk.now in
    let mid = d.seen c.write_safely.new.disk in
    let n = length c.args.bodies.now in
    let p = c.base.result + c.args.end + 1 in
    let q = c.base.result + c.args.end in
    and_then d.moment d.left_since c.args.disk.now c.write_safely.new.disk c.write_safely-2.new.disk (IsTorn p n f) (IsTorn q 1 mid) (IsOneOf l c.args.half rs more)
    (c.write_safely.ensures.any_moment only)
    (c.write_safely-2.ensures.any_moment c.in_ok-write_safely.ensures.durable)
    (λ image torn. behind l c.args.half rs more c.args.end c.args.bodies.now f added c.requires.some resting c.requires.room p image (omega (arith, c.base.ensures.value)) torn)
    (λ image torn. at_mark l c.args.half rs more c.args.end c.args.bodies.now f added c.requires.some resting c.requires.room p mid (omega (arith, c.base.ensures.value)) c.write_safely.ensures.torn
    c.in_ok-write_safely.ensures.written q image (omega (arith, c.base.ensures.value)) torn)

pub returns-clause-added : goal.returns-clause-added
returns-clause-added g c label rs more added resting only =
    let d = g.D.Disk in
    let l = layout c.args.capacity label in
    let f = d.seen c.args.disk.now in
    let mid = d.seen c.write_safely.new.disk in
    let p = c.base.result + c.args.end + 1 in
    let q = c.base.result + c.args.end in (
      rests l c.args.half rs more c.args.end c.args.bodies.now f added c.requires.some resting c.requires.room p mid (omega (arith, c.base.ensures.value)) c.write_safely.ensures.torn
          c.in_ok-write_safely.ensures.written q (d.seen c.write_safely-2.new.disk) (omega (arith, c.base.ensures.value)) c.write_safely-2.ensures.torn c.in_ok-write_safely-2.ensures.written,
      c.in_ok-write_safely-2.ensures.durable,
    )

pub overflow_add-mark : goal.overflow_add-mark
overflow_add-mark g c = omega (arith, small_half c.args.capacity, c.base.ensures.small, c.requires.room)

pub overflow_add-mark-2 : goal.overflow_add-mark-2
overflow_add-mark-2 g c = omega (arith, small_half c.args.capacity, c.base.ensures.small, c.requires.room)

pub write_safely-requires : goal.write_safely-requires
write_safely-requires g c = omega (arith, both_fit c.args.capacity c.args.half (c.args.end + 1 + length c.args.bodies.now) (omega arith) c.requires.room, c.base.ensures.value, c.requires.small)

pub write_safely-requires-2 : goal.write_safely-requires-2
write_safely-requires-2 g c = omega (
  arith,
  both_fit c.args.capacity c.args.half (c.args.end + 1 + length c.args.bodies.now) (omega arith) c.requires.room,
  c.base.ensures.value,
  c.requires.small,
  c.write_safely.ensures.stays,
)

pub returns-in_err-write_safely-clause-memory : goal.returns-in_err-write_safely-clause-memory
returns-in_err-write_safely-clause-memory g c =
    let n = length c.args.bodies.now in
    let q = c.base.result + c.args.end in
    uses_less 2 n (q + 1 + n) 4 (n + 1) _ _ _ _ _ (omega arith) (omega arith) (omega (arith, c.base.ensures.value)) c.write_safely.ensures.memory

pub returns-in_err-write_safely-2-clause-memory : goal.returns-in_err-write_safely-2-clause-memory
returns-in_err-write_safely-2-clause-memory g c =
    let n = length c.args.bodies.now in
    let q = c.base.result + c.args.end in
    uses_then 2 n (q + 1 + n) 2 1 (q + 1) 4 (n + 1) _ _ _ _ _ _ _ (omega arith) (omega arith) (omega (arith, c.base.ensures.value)) (omega (arith, c.base.ensures.value)) c.write_safely.ensures.memory
    c.write_safely-2.ensures.memory

pub returns-clause-memory : goal.returns-clause-memory
returns-clause-memory g c =
    let n = length c.args.bodies.now in
    let q = c.base.result + c.args.end in
    uses_then 2 n (q + 1 + n) 2 1 (q + 1) 4 (n + 1) _ _ _ _ _ _ _ (omega arith) (omega arith) (omega (arith, c.base.ensures.value)) (omega (arith, c.base.ensures.value)) c.write_safely.ensures.memory
    c.write_safely-2.ensures.memory

pub returns-in_err-write_safely-2-clause-refusals : goal.returns-in_err-write_safely-2-clause-refusals
returns-in_err-write_safely-2-clause-refusals g c =
    let d = g.D.Disk in
    let old = c.args.disk.now in
    let mid = c.write_safely.new.disk in
    let new = c.write_safely-2.new.disk in
    failed d.tells_failures d.tally d.refusals old new c.from_residual-in_err-write_safely-2.result _ c.from_residual-in_err-write_safely-2.ensures.1
    (refused_then d.tells_failures d.tally d.refusals old mid new c.in_ok-write_safely.ensures.refusals.granted c.write_safely.ensures.calls.up_to.promise
    c.in_err-write_safely-2.ensures.refusals.refused)

pub returns-in_err-write_safely-clause-refusals : goal.returns-in_err-write_safely-clause-refusals
returns-in_err-write_safely-clause-refusals g c =
    let d = g.D.Disk in
    failed d.tells_failures d.tally d.refusals c.args.disk.now c.write_safely.new.disk c.from_residual.result _ c.from_residual.ensures.1 c.in_err-write_safely.ensures.refusals.refused

pub returns-clause-refusals : goal.returns-clause-refusals
returns-clause-refusals g c = record { granted = c.in_ok-write_safely-2.ensures.refusals.granted ∙ c.in_ok-write_safely.ensures.refusals.granted; refused = tt }
