use Rattle.std.proofs.Common.{[], sym, subst, List}
use Rattle.record_journal.proofs.Moments.{started}
use Rattle.crash_disk.specs.Disk.{LeavesOnly}
use Rattle.record_journal.specs.Format.{Record}
use Rattle.epoch_journal.specs.declared.current.Half.TheVariants.{Second}
use Rattle.epoch_journal.specs.Layout.{layout}
use Rattle.epoch_journal.specs.Halves.{HasRecords, IsAt, IsSettled}
use Rattle.epoch_journal.specs.Read.{IsCurrently}
use Rattle.epoch_journal.proofs.Settling.{at_has}
use Rattle.epoch_journal.proofs.begin.settle.Goals as goal

pub returns-in-Half-clause-any_moment : goal.returns-in-Half-clause-any_moment
returns-in-Half-clause-any_moment g c label rs at only =
    let d = g.D.Disk in
    let l = layout c.args.capacity label in
    started d.moment d.left_since c.args.disk.now (HasRecords l rs)
    (λ image left. subst (HasRecords l rs) (sym (only image (g.met.D.Disk.only_now c.args.disk.now image left))) (at_has l rs c.args.current (d.seen c.args.disk.now) at))

pub returns-in-Half-clause-settled : goal.returns-in-Half-clause-settled
returns-in-Half-clause-settled g c label rs at only =
    (subst (λ x. IsAt (layout c.args.capacity label) rs x (g.D.Disk.seen c.args.disk.now)) c.in-Half.is at, only)

pub returns-in_err-write_front-in-Blank-clause-any_moment : goal.returns-in_err-write_front-in-Blank-clause-any_moment
returns-in_err-write_front-in-Blank-clause-any_moment g c label rs at only =
    let d = g.D.Disk in
    let l = layout c.args.capacity label in
    let blank = subst (λ x. IsAt l rs x (d.seen c.args.disk.now)) c.in-Blank.is at in
    subst (λ (q : List Record). LeavesOnly d.moment d.left_since c.args.disk.now c.write_front.new.disk (HasRecords l q)) (sym blank.0) (c.write_front.ensures.any_moment label blank.1 only)

pub returns-in_ok-write_front-in-Blank-clause-any_moment : goal.returns-in_ok-write_front-in-Blank-clause-any_moment
returns-in_ok-write_front-in-Blank-clause-any_moment g c label rs at only =
    let d = g.D.Disk in
    let l = layout c.args.capacity label in
    let blank = subst (λ x. IsAt l rs x (d.seen c.args.disk.now)) c.in-Blank.is at in
    subst (λ (q : List Record). LeavesOnly d.moment d.left_since c.args.disk.now c.write_front.new.disk (HasRecords l q)) (sym blank.0) (c.write_front.ensures.any_moment label blank.1 only)

pub returns-in_ok-write_front-in-Blank-clause-settled : goal.returns-in_ok-write_front-in-Blank-clause-settled
returns-in_ok-write_front-in-Blank-clause-settled g c label rs at only =
    let d = g.D.Disk in
    let l = layout c.args.capacity label in
    let blank = subst (λ x. IsAt l rs x (d.seen c.args.disk.now)) c.in-Blank.is at in
    let after = c.in_ok-write_front-in-Blank.ensures.settled label blank.1 only in
    (subst (λ (q : List Record). IsSettled l Second q (d.seen c.write_front.new.disk)) (sym blank.0) after.0, after.1)

pub returns-in-Half-clause-fronted : goal.returns-in-Half-clause-fronted
returns-in-Half-clause-fronted g c is only = (subst (λ x. IsCurrently c.args.capacity x (g.D.Disk.seen c.args.disk.now)) c.in-Half.is is).1

pub returns-in_ok-write_front-in-Blank-clause-fronted : goal.returns-in_ok-write_front-in-Blank-clause-fronted
returns-in_ok-write_front-in-Blank-clause-fronted g c is only =
    let short = subst (λ x. IsCurrently c.args.capacity x (g.D.Disk.seen c.args.disk.now)) c.in-Blank.is is in
    (c.in_ok-write_front-in-Blank.ensures.settled [] short only).0.fronted
