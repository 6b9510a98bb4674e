use Rattle.std.proofs.Common.{ℕ, get_or, subst, ◌∙◌}
use Rattle.teb_rules.specs.declared.names.Txn.{Txn}
use Rattle.phase_api.specs.FactsView.{setup_of, events_of}
use Rattle.batch_book.proofs.Telling.{joined_from}
use Rattle.snapshot_node.specs.Leaving.{AreStarted}
use Rattle.snapshot_node.proofs.Edges.{across_overlap, begun_place}
use Rattle.snapshot_node.proofs.Listed.{writers_here}
use Rattle.snapshot_node.proofs.Overwritten.{started_among, none_committed, last_decides}
use Rattle.snapshot_node.proofs.asked.Asked.is_overwritten.Goals as goal

pub overlap-requires-clause-first : goal.overlap-requires-clause-first
overlap-requires-clause-first c = joined_from _ (setup_of c.args.self.now.facts.now) (events_of c.args.self.now.facts.now) c.args.self.now.register.now.node.0 c.args.a.0 c.args.self.now.stands.batches
    c.requires.here.typed.begun c.requires.here.on

pub overlap-requires-clause-second : goal.overlap-requires-clause-second
overlap-requires-clause-second c =
    let f = c.args.self.now.facts.now in
    let S = setup_of f in
    let H = events_of f in
    let n = c.args.self.now.register.now.node.0 in
    let a = c.args.a.0 in
    let x = c.args.cell in
    let k = c.args.self.now.stands in
    let us = c.started_before-started.result.now in
    let d : Txn = record { 0 = 0 } in
    let ba = begun_place H a c.requires.here.typed.begun in
    let s = subst (λ (i : ℕ). AreStarted S H n x i us) c.close_of.ensures c.started_before-started.ensures in
    let h = writers_here f n x k.orderly (get_or us c.in-Some.i d).0 (started_among S H n c.requires.lawful k.kind k.orderly x a ba c.requires.here.on d us s c.in-Some.i c.in-Some.ensures.0) in
    joined_from _ S H n (get_or us c.in-Some.i d).0 k.batches h.typed.begun h.on

pub returns-in-Some : goal.returns-in-Some
returns-in-Some c =
    let f = c.args.self.now.facts.now in
    let S = setup_of f in
    let H = events_of f in
    let n = c.args.self.now.register.now.node.0 in
    let a = c.args.a.0 in
    let x = c.args.cell in
    let k = c.args.self.now.stands in
    let us = c.started_before-started.result.now in
    let d : Txn = record { 0 = 0 } in
    let ba = begun_place H a c.requires.here.typed.begun in
    let s = subst (λ (i : ℕ). AreStarted S H n x i us) c.close_of.ensures c.started_before-started.ensures in
    let i = c.in-Some.i in
    let h = writers_here f n x k.orderly (get_or us i d).0 (started_among S H n c.requires.lawful k.kind k.orderly x a ba c.requires.here.on d us s i c.in-Some.ensures.0) in
    c.overlap.ensures S H n k.batches
    ∙ across_overlap S H n c.requires.lawful a (get_or us i d).0 ba (begun_place H (get_or us i d).0 h.typed.begun) c.requires.here.on h.on
    ∙ last_decides S H n c.requires.lawful k.kind k.orderly x a ba c.requires.here.on d us s i c.in-Some.ensures.0 (c.in-Some.ensures.1 d) c.in-Some.ensures.2

pub returns-in-None : goal.returns-in-None
returns-in-None c =
    let f = c.args.self.now.facts.now in
    let S = setup_of f in
    let H = events_of f in
    let n = c.args.self.now.register.now.node.0 in
    let a = c.args.a.0 in
    let x = c.args.cell in
    let k = c.args.self.now.stands in
    let us = c.started_before-started.result.now in
    let d : Txn = record { 0 = 0 } in
    let ba = begun_place H a c.requires.here.typed.begun in
    let s = subst (λ (i : ℕ). AreStarted S H n x i us) c.close_of.ensures c.started_before-started.ensures in
    none_committed S H n c.requires.lawful k.kind k.orderly x a ba c.requires.here.on d us s c.in-None.ensures
