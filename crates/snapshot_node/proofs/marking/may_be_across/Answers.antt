use Rattle.std.proofs.Common.{◌∙◌, sym}
use Rattle.std.proofs.lemmas.Bool.{both_ways}
use Rattle.phase_api.specs.FactsView.{setup_of, events_of}
use Rattle.batch_book.proofs.Telling.{joined_from}
use Rattle.snapshot_node.proofs.Edges.{across_overlap, across_same, begun_place}
use Rattle.snapshot_node.proofs.marking.may_be_across.Goals as goal
use Rattle.snapshot_node.proofs.marking.may_be_across.Goals.{then-ne, else-ne}

pub overlap-requires-clause-first : goal.overlap-requires-clause-first
overlap-requires-clause-first c = joined_from _ (setup_of c.args.asked.now.facts.now) (events_of c.args.asked.now.facts.now) c.args.asked.now.register.now.node.0 c.args.t.0
    c.args.asked.now.stands.batches c.requires.left.typed.begun c.requires.left.on

pub overlap-requires-clause-second : goal.overlap-requires-clause-second
overlap-requires-clause-second c = joined_from _ (setup_of c.args.asked.now.facts.now) (events_of c.args.asked.now.facts.now) c.args.asked.now.register.now.node.0 c.args.u.0
    c.args.asked.now.stands.batches c.requires.right.typed.begun c.requires.right.on

pub returns-else-overlap : goal.returns-else-overlap
returns-else-overlap c l h k =
    let S = setup_of c.args.asked.now.facts.now in
    let H = events_of c.args.asked.now.facts.now in
    let n = c.args.asked.now.register.now.node.0 in
    elim c.if-ne.branch [
      | then-ne w ↦ absurd (both_ways _ (sym w.value-is ∙ c.if-overlap.false) (w.overlap.ensures S H n c.args.asked.now.stands.batches
          ∙ across_overlap S H n l c.args.t.0 c.args.u.0 (begun_place H c.args.t.0 c.requires.left.typed.begun) (begun_place H c.args.u.0 c.requires.right.typed.begun) c.requires.left.on
          c.requires.right.on ∙ k))
      | else-ne w ↦ absurd (both_ways _ (sym (across_same S H n c.args.t.0 c.args.u.0 (sym c.ne.ensures ∙ w.if-ne.false))) k)
    ]
