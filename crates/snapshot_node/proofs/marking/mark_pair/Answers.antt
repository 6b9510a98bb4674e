use Rattle.std.proofs.Common.{◌≡◌, ◌-◌, arith}
use Rattle.phase_api.specs.FactsView.{setup_of, events_of}
use Rattle.batch_book.proofs.Telling.{joined_from}
use Rattle.batch_book.proofs.Intervals.{start-lt}
use Rattle.teb_rules.proofs.lemmas.history.Counting.{begun_fewer}
use Rattle.snapshot_node.proofs.marking.mark_pair.Goals as goal

pub start-requires : goal.start-requires
start-requires c = joined_from _ (setup_of c.args.asked.now.facts.now) (events_of c.args.asked.now.facts.now) c.args.asked.now.register.now.node.0 c.args.u.0 c.args.asked.now.stands.batches
    c.requires.tail.typed.begun c.requires.tail.on

pub start-requires-2 : goal.start-requires-2
start-requires-2 c = joined_from _ (setup_of c.args.asked.now.facts.now) (events_of c.args.asked.now.facts.now) c.args.asked.now.register.now.node.0 c.args.w.0 c.args.asked.now.stands.batches
    c.requires.head.typed.begun c.requires.head.on

pub mark_edge-requires-clause-from : goal.mark_edge-requires-clause-from
mark_edge-requires-clause-from c =
    let S = setup_of c.args.asked.now.facts.now in
    let H = events_of c.args.asked.now.facts.now in
    let n = c.args.asked.now.register.now.node.0 in
    let e = c.start.ensures S H n c.args.asked.now.stands.batches in
    let l = start-lt S H n c.args.u.0 c.requires.tail.typed.begun in
    omega (arith, e, l, c.requires.long)

pub mark_edge-requires-clause-to : goal.mark_edge-requires-clause-to
mark_edge-requires-clause-to c =
    let S = setup_of c.args.asked.now.facts.now in
    let H = events_of c.args.asked.now.facts.now in
    let n = c.args.asked.now.register.now.node.0 in
    let e = c.start-2.ensures S H n c.args.asked.now.stands.batches in
    let l = start-lt S H n c.args.w.0 c.requires.head.typed.begun in
    omega (arith, e, l, c.requires.long)

pub mark_ends-requires-clause-from : goal.mark_ends-requires-clause-from
mark_ends-requires-clause-from c =
    let H = events_of c.args.asked.now.facts.now in
    let q = c.args.asked.now.stands.orderly.numbered c.args.u.0 c.requires.tail.typed.begun in
    let positive = q.0 in
    let counted = q.1 in
    let fewer = begun_fewer H in
    let place : c.place_of.result ≡ c.args.u.0 - 1 = c.place_of.ensures in
    omega (arith, positive, counted, fewer, place, c.requires.long, c.mark_edge.ensures.grown.long)

pub mark_ends-requires-clause-to : goal.mark_ends-requires-clause-to
mark_ends-requires-clause-to c =
    let H = events_of c.args.asked.now.facts.now in
    let q = c.args.asked.now.stands.orderly.numbered c.args.w.0 c.requires.head.typed.begun in
    let positive = q.0 in
    let counted = q.1 in
    let fewer = begun_fewer H in
    let place : c.place_of-2.result ≡ c.args.w.0 - 1 = c.place_of-2.ensures in
    omega (arith, positive, counted, fewer, place, c.requires.long, c.mark_edge.ensures.grown.long)
