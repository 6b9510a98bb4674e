use Rattle.std.proofs.Common.{◌≡◌, ◌∙◌, List, find, get_or, sym, ap, true, false}
use Rattle.teb_rules.specs.declared.names.Node.{Node}
use Rattle.hold_book.specs.declared.Hold.{Hold}
use Rattle.phase_api.specs.FactsView.{setup_of, events_of}
use Rattle.access_conflicts.specs.Blockers.{in_the_way}
use Rattle.access_conflicts.proofs.Blockers.{holder, blocks_holds, blocks_held, found_among_holders, held_typed, find_here, find_end}
use Rattle.nexus_locks.proofs.locks.Locks.blocker.Goals as goal

pub is_in_the_way-requires-clause-holder : goal.is_in_the_way-requires-clause-holder
is_in_the_way-requires-clause-holder c = held_typed c.args.facts.now _ c.args.cell c.holds-hold-items.result.now c.loop-hold.hold-index _ c.requires.stands.register.book.orderly
    c.holds-hold-items.ensures c.loop-hold-test.true

pub returns-then-is_in_the_way : goal.returns-then-is_in_the_way
returns-then-is_in_the_way c =
    let S = setup_of c.args.facts.now in
    let H = events_of c.args.facts.now in
    let n = c.args.self.now.register.node.0 in
    let t = c.args.t.0 in
    let hs = c.holds-hold-items.result.now in
    let i = c.loop-hold.hold-index in
    let d : Hold = record { txn = record { 0 = 0 }; wrote = false } in
    let met : in_the_way S H n t c.args.write (get_or hs i d) ≡ true = ap (λ (m : Node). in_the_way S H m.0 t c.args.write (get_or hs i d)) (sym c.node-node.ensures) ∙ sym c.is_in_the_way.ensures
    ∙ c.if-is_in_the_way.true in
    ap holder (find_here (in_the_way S H n t c.args.write) hs i d c.loop-hold-test.true met c.loop-hold.invariant)
    ∙ ap (λ (l : List Hold). holder (find (in_the_way S H n t c.args.write) l)) c.holds-hold-items.ensures
    ∙ found_among_holders S H n c.args.cell _ (in_the_way S H n t c.args.write) (blocks_holds S H n t c.args.cell c.args.write) (blocks_held S H n t c.args.cell c.args.write)

pub returns : goal.returns
returns c =
    let S = setup_of c.args.facts.now in
    let H = events_of c.args.facts.now in
    let n = c.args.self.now.register.node.0 in
    let t = c.args.t.0 in
    let p = in_the_way S H n t c.args.write in
    ap holder (find_end p c.holds-hold-items.result.now c.loop-hold.hold-index c.loop-hold-test.false c.loop-hold.invariant)
    ∙ ap (λ (l : List Hold). holder (find p l)) c.holds-hold-items.ensures
    ∙ found_among_holders S H n c.args.cell _ p (blocks_holds S H n t c.args.cell c.args.write) (blocks_held S H n t c.args.cell c.args.write)
