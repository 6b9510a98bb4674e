use Rattle.std.proofs.Common.{◌≡◌, ◌∙◌, ap, length, ◌+◌, arith}
use Rattle.crash_disk.specs.Disk.{IsTorn}
use Rattle.record_journal.proofs.Moments.{weaker}
use Rattle.epoch_journal.specs.Layout.{layout, half_at, other_half, selected_by}
use Rattle.epoch_journal.specs.Halves.{IsEither}
use Rattle.crash_disk.proofs.Spares.{uses_then, uses_less}
use Rattle.epoch_journal.proofs.Moments.{and_then}
use Rattle.epoch_journal.proofs.Refusing.{failed, refused_then}
use Rattle.epoch_journal.proofs.Sizes.{both_fit, half_some}
use Rattle.epoch_journal.proofs.Switching.{still_current, either, rests_fronted, switched}
use Rattle.epoch_journal.proofs.steps.switch_halves.Goals as goal

pub returns-in_err-write_safely-clause-any_moment : goal.returns-in_err-write_safely-clause-any_moment
returns-in_err-write_safely-clause-any_moment g c label rs r piece settled only =
    let start = c.base.ensures.value ∙ ap (half_at c.args.capacity) c.other-target.ensures in
    let d = g.D.Disk in
    let l = layout c.args.capacity label in
    let f = d.seen c.args.disk.now in
    let n = length c.args.piece.now in
    weaker d.moment d.left_since c.args.disk.now c.write_safely.new.disk (IsTorn c.base.result n f) (IsEither l c.args.half rs r)
    (λ image torn. still_current l c.args.half rs r c.args.piece.now f piece settled c.requires.room c.base.result image start torn)
    (c.write_safely.ensures.any_moment only)

pub returns-in_err-write_safely-2-clause-any_moment : goal.returns-in_err-write_safely-2-clause-any_moment
returns-in_err-write_safely-2-clause-any_moment g c label rs r piece settled only =
    let start = c.base.ensures.value ∙ ap (half_at c.args.capacity) c.other-target.ensures in
    let d = g.D.Disk in
    let l = layout c.args.capacity label in
    let f = d.seen c.args.disk.now in
    let mid = d.seen c.write_safely.new.disk in
    let n = length c.args.piece.now in
    and_then d.moment d.left_since c.args.disk.now c.write_safely.new.disk c.write_safely-2.new.disk (IsTorn c.base.result n f) (IsTorn 0 1 mid) (IsEither l c.args.half rs r)
    (c.write_safely.ensures.any_moment only)
    (c.write_safely-2.ensures.any_moment c.in_ok-write_safely.ensures.durable)
    (λ image torn. still_current l c.args.half rs r c.args.piece.now f piece settled c.requires.room c.base.result image start torn)
    (λ image torn. either l c.args.half rs r c.args.piece.now f piece settled c.requires.room c.base.result mid start c.write_safely.ensures.torn c.in_ok-write_safely.ensures.written
    image torn)

pub returns-clause-any_moment : goal.returns-clause-any_moment
returns-clause-any_moment g c label rs r piece settled only =
    let start = c.base.ensures.value ∙ ap (half_at c.args.capacity) c.other-target.ensures in
    let d = g.D.Disk in
    let l = layout c.args.capacity label in
    let f = d.seen c.args.disk.now in
    let mid = d.seen c.write_safely.new.disk in
    let n = length c.args.piece.now in
    and_then d.moment d.left_since c.args.disk.now c.write_safely.new.disk c.write_safely-2.new.disk (IsTorn c.base.result n f) (IsTorn 0 1 mid) (IsEither l c.args.half rs r)
    (c.write_safely.ensures.any_moment only)
    (c.write_safely-2.ensures.any_moment c.in_ok-write_safely.ensures.durable)
    (λ image torn. still_current l c.args.half rs r c.args.piece.now f piece settled c.requires.room c.base.result image start torn)
    (λ image torn. either l c.args.half rs r c.args.piece.now f piece settled c.requires.room c.base.result mid start c.write_safely.ensures.torn c.in_ok-write_safely.ensures.written
    image torn)

pub returns-clause-switched : goal.returns-clause-switched
returns-clause-switched g c label rs r piece settled =
    let start = c.base.ensures.value ∙ ap (half_at c.args.capacity) c.other-target.ensures in
    let d = g.D.Disk in
    let l = layout c.args.capacity label in
    let f = d.seen c.args.disk.now in
    let mid = d.seen c.write_safely.new.disk in
    let chosen : selected_by c.selector.result ≡ other_half c.args.half = c.selector.ensures ∙ c.other-target.ensures in (
      switched l c.args.half rs r c.args.piece.now f piece settled c.requires.room c.base.result mid start c.write_safely.ensures.torn c.in_ok-write_safely.ensures.written
          c.selector.result (d.seen c.write_safely-2.new.disk) chosen c.write_safely-2.ensures.torn c.in_ok-write_safely-2.ensures.written,
      c.in_ok-write_safely-2.ensures.durable,
    )

pub write_safely-requires : goal.write_safely-requires
write_safely-requires g c =
    let start = c.base.ensures.value ∙ ap (half_at c.args.capacity) c.other-target.ensures in
    omega (arith, both_fit c.args.capacity (other_half c.args.half) (length c.args.piece.now) c.requires.some c.requires.room, start, c.requires.small)

pub write_safely-requires-2 : goal.write_safely-requires-2
write_safely-requires-2 g c =
    let start = c.base.ensures.value ∙ ap (half_at c.args.capacity) c.other-target.ensures in
    omega (
      arith,
      both_fit c.args.capacity (other_half c.args.half) (length c.args.piece.now) c.requires.some c.requires.room,
      start,
      c.requires.small,
      c.write_safely.ensures.stays,
    )

pub returns-clause-resting : goal.returns-clause-resting
returns-clause-resting g c label r piece fronted =
    let start = c.base.ensures.value ∙ ap (half_at c.args.capacity) c.other-target.ensures in
    let d = g.D.Disk in
    let l = layout c.args.capacity label in
    let f = d.seen c.args.disk.now in
    let mid = d.seen c.write_safely.new.disk in
    let chosen : selected_by c.selector.result ≡ other_half c.args.half = c.selector.ensures ∙ c.other-target.ensures in
    rests_fronted l c.args.half r c.args.piece.now f piece fronted c.base.result mid start c.write_safely.ensures.torn c.in_ok-write_safely.ensures.written c.selector.result
    (d.seen c.write_safely-2.new.disk) chosen c.write_safely-2.ensures.torn c.in_ok-write_safely-2.ensures.written

pub returns-in_err-write_safely-clause-memory : goal.returns-in_err-write_safely-clause-memory
returns-in_err-write_safely-clause-memory g c =
    let start = c.base.ensures.value ∙ ap (half_at c.args.capacity) c.other-target.ensures in
    let n = length c.args.piece.now in
    uses_less 2 n (c.base.result + n) 4 (n + 1) _ _ _ _ _ (omega arith) (omega arith) (omega (arith, start)) c.write_safely.ensures.memory

pub returns-in_err-write_safely-2-clause-memory : goal.returns-in_err-write_safely-2-clause-memory
returns-in_err-write_safely-2-clause-memory g c =
    let start = c.base.ensures.value ∙ ap (half_at c.args.capacity) c.other-target.ensures in
    let n = length c.args.piece.now in
    uses_then 2 n (c.base.result + n) 2 1 1 4 (n + 1) _ _ _ _ _ _ _ (omega arith) (omega arith) (omega (arith, start)) (omega (arith, half_some c.args.capacity (other_half c.args.half)))
    c.write_safely.ensures.memory c.write_safely-2.ensures.memory

pub returns-clause-memory : goal.returns-clause-memory
returns-clause-memory g c =
    let start = c.base.ensures.value ∙ ap (half_at c.args.capacity) c.other-target.ensures in
    let n = length c.args.piece.now in
    uses_then 2 n (c.base.result + n) 2 1 1 4 (n + 1) _ _ _ _ _ _ _ (omega arith) (omega arith) (omega (arith, start)) (omega (arith, half_some c.args.capacity (other_half c.args.half)))
    c.write_safely.ensures.memory c.write_safely-2.ensures.memory

pub returns-in_err-write_safely-2-clause-refusals : goal.returns-in_err-write_safely-2-clause-refusals
returns-in_err-write_safely-2-clause-refusals g c =
    let d = g.D.Disk in
    let old = c.args.disk.now in
    let mid = c.write_safely.new.disk in
    let new = c.write_safely-2.new.disk in
    failed d.tells_failures d.tally d.refusals old new c.from_residual-in_err-write_safely-2.result _ c.from_residual-in_err-write_safely-2.ensures.1
    (refused_then d.tells_failures d.tally d.refusals old mid new c.in_ok-write_safely.ensures.refusals.granted c.write_safely.ensures.calls.up_to.promise
    c.in_err-write_safely-2.ensures.refusals.refused)

pub returns-in_err-write_safely-clause-refusals : goal.returns-in_err-write_safely-clause-refusals
returns-in_err-write_safely-clause-refusals g c =
    let d = g.D.Disk in
    failed d.tells_failures d.tally d.refusals c.args.disk.now c.write_safely.new.disk c.from_residual.result _ c.from_residual.ensures.1 c.in_err-write_safely.ensures.refusals.refused

pub returns-clause-refusals : goal.returns-clause-refusals
returns-clause-refusals g c = record { granted = c.in_ok-write_safely-2.ensures.refusals.granted ∙ c.in_ok-write_safely.ensures.refusals.granted; refused = tt }
