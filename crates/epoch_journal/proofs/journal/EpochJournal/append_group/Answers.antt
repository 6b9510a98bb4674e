use Rattle.std.proofs.Common.{◌++◌, length, ap, sym, subst, arith}
use Rattle.crash_disk.specs.Disk.{LeavesOnly}
use Rattle.epoch_journal.specs.Bodies.{AreBodies}
use Rattle.epoch_journal.specs.Group.{GroupState, records_in}
use Rattle.epoch_journal.specs.Telling.{TellsOn}
use Rattle.epoch_journal.proofs.Bodies.{few_records, length-bodies}
use Rattle.epoch_journal.proofs.journal.EpochJournal.append_group.Goals as goal

pub append_bodies-requires-clause-some : goal.append_bodies-requires-clause-some
append_bodies-requires-clause-some g c =
    let bytes = c.group.inside.bytes.items in
    let rs = records_in bytes in
    omega (arith, c.requires.some, few_records rs, length-bodies rs bytes c.group.invariant.bodies, ap (λ (s : GroupState). length s.records) c.group.view_is)

pub append_bodies-requires-clause-counted : goal.append_bodies-requires-clause-counted
append_bodies-requires-clause-counted g c =
    let bytes = c.group.inside.bytes.items in
    let rs = records_in bytes in
    omega (arith, c.group.invariant.counted, few_records rs, length-bodies rs bytes c.group.invariant.bodies)

pub returns-clause-any_moment : goal.returns-clause-any_moment
returns-clause-any_moment g c start all least kept =
    let d = g.D.Disk in
    let bytes = c.group.inside.bytes.items in
    subst (λ (s : GroupState). LeavesOnly d.moment d.left_since c.args.self.now.disk c.append_bodies.new.self.disk (TellsOn c.args.self.now.layout start (all ++ s.records) least)) c.group.view_is
    (c.append_bodies.ensures.any_moment start all least (records_in bytes) (subst (AreBodies (records_in bytes)) (sym c.deref.ensures.value) c.group.invariant.bodies) kept)
