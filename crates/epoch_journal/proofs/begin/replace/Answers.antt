use Rattle.std.proofs.Common.{inl, ◌∷◌, [], ◌-◌, ◌∙◌, length, sym, subst, arith}
use Rattle.record_journal.proofs.Moments.{weaker}
use Rattle.epoch_journal.specs.declared.current.Half.{Half}
use Rattle.epoch_journal.specs.Layout.{layout}
use Rattle.epoch_journal.specs.Halves.{HasRecords, HasOneOf, IsEither, IsResting}
use Rattle.epoch_journal.proofs.Moments.{and_then}
use Rattle.epoch_journal.proofs.Sizes.{two_halves}
use Rattle.epoch_journal.proofs.Switching.{either_has}
use Rattle.epoch_journal.proofs.begin.replace.Goals as goal

pub returns-in_err-half-clause-any_moment : goal.returns-in_err-half-clause-any_moment
returns-in_err-half-clause-any_moment g c label rs r piece at only =
    let d = g.D.Disk in
    let l = layout c.args.capacity label in
    weaker d.moment d.left_since c.args.disk.now c.settle.new.disk (HasRecords l rs) (HasOneOf l rs (r ∷ [])) (λ image so. inl so) (c.settle.ensures.any_moment label rs at only)

pub returns-in_err-switch_halves-clause-any_moment : goal.returns-in_err-switch_halves-clause-any_moment
returns-in_err-switch_halves-clause-any_moment g c label rs r piece at only =
    let d = g.D.Disk in
    let l = layout c.args.capacity label in
    let settled = c.in_ok-half.ensures.settled label rs at only in
    and_then d.moment d.left_since c.args.disk.now c.settle.new.disk c.switch_halves.new.disk (HasRecords l rs) (IsEither l c.in_ok-half.half rs r) (HasOneOf l rs (r ∷ []))
    (c.settle.ensures.any_moment label rs at only) (c.switch_halves.ensures.any_moment label rs r piece settled.0 settled.1) (λ image so. inl so)
    (λ image so. either_has l c.in_ok-half.half rs r image so)

pub returns-clause-any_moment : goal.returns-clause-any_moment
returns-clause-any_moment g c label rs r piece at only =
    let d = g.D.Disk in
    let l = layout c.args.capacity label in
    let settled = c.in_ok-half.ensures.settled label rs at only in
    and_then d.moment d.left_since c.args.disk.now c.settle.new.disk c.switch_halves.new.disk (HasRecords l rs) (IsEither l c.in_ok-half.half rs r) (HasOneOf l rs (r ∷ []))
    (c.settle.ensures.any_moment label rs at only) (c.switch_halves.ensures.any_moment label rs r piece settled.0 settled.1) (λ image so. inl so)
    (λ image so. either_has l c.in_ok-half.half rs r image so)

pub returns-clause-switched : goal.returns-clause-switched
returns-clause-switched g c label rs r piece at only =
    let d = g.D.Disk in
    let l = layout c.args.capacity label in
    let settled = c.in_ok-half.ensures.settled label rs at only in
    let after = c.in_ok-switch_halves.ensures.switched label rs r piece settled.0 in
    (subst (λ (h : Half). IsResting l h (r ∷ []) (length c.args.piece.now - 1) (d.seen c.switch_halves.new.disk)) (sym c.other.ensures) after.0, after.1)

pub settle-requires-clause-small : goal.settle-requires-clause-small
settle-requires-clause-small g c =
    let some = c.requires.some in
    let room = c.requires.room in
    (omega (arith, two_halves c.args.capacity (omega arith)), c.requires.small)

pub returns-clause-resting : goal.returns-clause-resting
returns-clause-resting g c label r piece is only =
    let d = g.D.Disk in
    let l = layout c.args.capacity label in
    subst (λ (h : Half). IsResting l h (r ∷ []) (length c.args.piece.now - 1) (d.seen c.switch_halves.new.disk)) (sym c.other.ensures)
    (c.in_ok-switch_halves.ensures.resting label r piece (c.in_ok-half.ensures.fronted is only))

pub returns-clause-granted : goal.returns-clause-granted
returns-clause-granted g c = c.in_ok-switch_halves.ensures.refusals.granted ∙ c.in_ok-half.ensures.granted
