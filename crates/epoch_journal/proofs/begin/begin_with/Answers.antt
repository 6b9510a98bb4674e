use Rattle.std.proofs.Common.{◌∷◌, [], inl, sym, refl, subst}
use Rattle.record_journal.proofs.Moments.{started}
use Rattle.epoch_journal.specs.Layout.{layout}
use Rattle.epoch_journal.specs.Halves.{HasOneOf, HasRecords}
use Rattle.epoch_journal.specs.Telling.{checkpoint_of}
use Rattle.epoch_journal.proofs.Settling.{at_has}
use Rattle.epoch_journal.proofs.Telling.{same_piece}
use Rattle.epoch_journal.proofs.begin.begin_with.Goals as goal

pub returns-in_err-front-clause-any_moment : goal.returns-in_err-front-clause-any_moment
returns-in_err-front-clause-any_moment g c rs at only =
    let d = g.D.Disk in
    let l = layout c.args.capacity c.args.label.now in
    let old = c.args.disk.now in
    started d.moment d.left_since old (HasOneOf l rs (checkpoint_of c.args.rows.now ∷ []))
    (λ image left. inl (subst (HasRecords l rs) (sym (only image (g.met.D.Disk.only_now old image left))) (at_has l rs c.args.current (d.seen old) at)))

pub returns-in_err-piece-clause-any_moment : goal.returns-in_err-piece-clause-any_moment
returns-in_err-piece-clause-any_moment g c rs at only =
    let d = g.D.Disk in
    let l = layout c.args.capacity c.args.label.now in
    let old = c.args.disk.now in
    started d.moment d.left_since old (HasOneOf l rs (checkpoint_of c.args.rows.now ∷ []))
    (λ image left. inl (subst (HasRecords l rs) (sym (only image (g.met.D.Disk.only_now old image left))) (at_has l rs c.args.current (d.seen old) at)))

pub returns-in_err-place-clause-any_moment : goal.returns-in_err-place-clause-any_moment
returns-in_err-place-clause-any_moment g c rs at only =
    let d = g.D.Disk in
    let ck = checkpoint_of c.args.rows.now in
    let piece = same_piece c.args.capacity c.args.label.now c.args.label.now ck c.in_ok-piece.piece.items c.deref-2.result.now refl c.deref-2.ensures.value c.in_ok-piece.ensures.piece in
    c.replace.ensures.any_moment c.args.label.now rs ck piece at only

pub returns-clause-any_moment : goal.returns-clause-any_moment
returns-clause-any_moment g c rs at only =
    let d = g.D.Disk in
    let ck = checkpoint_of c.args.rows.now in
    let piece = same_piece c.args.capacity c.args.label.now c.args.label.now ck c.in_ok-piece.piece.items c.deref-2.result.now refl c.deref-2.ensures.value c.in_ok-piece.ensures.piece in
    c.replace.ensures.any_moment c.args.label.now rs ck piece at only

pub returns-clause-begun : goal.returns-clause-begun
returns-clause-begun g c rs at only =
    let d = g.D.Disk in
    let ck = checkpoint_of c.args.rows.now in
    let piece = same_piece c.args.capacity c.args.label.now c.args.label.now ck c.in_ok-piece.piece.items c.deref-2.result.now refl c.deref-2.ensures.value c.in_ok-piece.ensures.piece in
    c.in_ok-place.ensures.switched c.args.label.now rs ck piece at only

pub returns-clause-resting : goal.returns-clause-resting
returns-clause-resting g c is only =
    let ck = checkpoint_of c.args.rows.now in
    let piece = same_piece c.args.capacity c.args.label.now c.args.label.now ck c.in_ok-piece.piece.items c.deref-2.result.now refl c.deref-2.ensures.value c.in_ok-piece.ensures.piece in
    c.in_ok-place.ensures.resting c.args.label.now ck piece is only
