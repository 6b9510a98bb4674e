use Rattle.engine_core.proofs.CursorSteps.{access_mover, access_moves, began_stands, others_stand}
use Rattle.engine_core.proofs.keeping.keep_cursors.Goals as goal

pub move_cursor-requires : goal.move_cursor-requires
move_cursor-requires c =
    let mover = access_mover c.args.facts.now c.args.event _ c.requires.newest c.requires.lawful c.requires.cursors c.in-Got.txn c.in-Got.cell c.in-Got.is in
    record { typed = mover.typed; profiled = c.requires.profiled; above = mover.above; begun = mover.begun }

pub returns-in-Began-clause-cursors : goal.returns-in-Began-clause-cursors
returns-in-Began-clause-cursors c =
    began_stands c.args.facts.now c.args.event _ c.requires.newest c.requires.lawful c.requires.cursors c.in-Began.txn c.in-Began.session c.in-Began.kind c.in-Began.instance _ c.in-Began.is
    c.begin.ensures.cursors

pub returns-in-Got-clause-cursors : goal.returns-in-Got-clause-cursors
returns-in-Got-clause-cursors c =
    access_moves c.args.facts.now c.args.event _ c.requires.newest c.requires.lawful c.requires.cursors c.in-Got.txn c.in-Got.cell _ c.in-Got.is c.move_cursor.ensures.cursors

pub returns-in_default-clause-cursors : goal.returns-in_default-clause-cursors
returns-in_default-clause-cursors c =
    others_stand c.args.facts.now c.args.event _ c.requires.newest c.requires.lawful c.requires.cursors c.in_default.not-Began c.in_default.not-Got c.in_default.not-Put
