use Rattle.std.proofs.Common.{◌∙◌, sym}
use Rattle.phase_api.specs.FactsView.{setup_of, events_of}
use Rattle.batch_book.proofs.Telling.{joined_from}
use Rattle.snapshot_node.proofs.Edges.{across_overlap, across_same, begun_place}
use Rattle.snapshot_node.proofs.validation.Validation.are_across.Goals as goal

pub overlap-requires-clause-first : goal.overlap-requires-clause-first
overlap-requires-clause-first c = joined_from _ (setup_of c.args.self.now.asked.facts.now) (events_of c.args.self.now.asked.facts.now) c.args.self.now.asked.register.now.node.0 c.args.u.0
    c.args.self.now.asked.stands.batches c.requires.left.typed.begun c.requires.left.on

pub overlap-requires-clause-second : goal.overlap-requires-clause-second
overlap-requires-clause-second c = joined_from _ (setup_of c.args.self.now.asked.facts.now) (events_of c.args.self.now.asked.facts.now) c.args.self.now.asked.register.now.node.0 c.args.v.0
    c.args.self.now.asked.stands.batches c.requires.right.typed.begun c.requires.right.on

pub returns-else-ne : goal.returns-else-ne
returns-else-ne c = c.if-ne.false ∙ across_same (setup_of c.args.self.now.asked.facts.now) (events_of c.args.self.now.asked.facts.now) c.args.self.now.asked.register.now.node.0 c.args.u.0 c.args.v.0
    (sym c.ne.ensures ∙ c.if-ne.false)

pub returns-then-ne : goal.returns-then-ne
returns-then-ne c =
    let S = setup_of c.args.self.now.asked.facts.now in
    let H = events_of c.args.self.now.asked.facts.now in
    let n = c.args.self.now.asked.register.now.node.0 in
    c.overlap.ensures S H n c.args.self.now.asked.stands.batches
    ∙ across_overlap S H n c.args.self.now.lawful c.args.u.0 c.args.v.0 (begun_place H c.args.u.0 c.requires.left.typed.begun) (begun_place H c.args.v.0 c.requires.right.typed.begun)
    c.requires.left.on c.requires.right.on
