use Rattle.std.proofs.Common.{◌∙◌, sym}
use Rattle.std.proofs.lemmas.Bool.{both_ways}
use Rattle.timestamp_node.proofs.Here.{here_joined, right_here, unfinished_typed}
use Rattle.timestamp_node.proofs.stamps.Stamps.holds_back.Goals as goal
use Rattle.timestamp_node.proofs.stamps.Stamps.holds_back.Goals.{then-is_unfinished, else-is_unfinished}

pub meet_at-requires-clause-right : goal.meet_at-requires-clause-right
meet_at-requires-clause-right c = unfinished_typed c.args.facts.now c.args.self.now.node.0 c.args.u.0 c.requires.stands.orderly (sym c.is_unfinished.ensures ∙ c.if-is_unfinished.true)

pub start-requires : goal.start-requires
start-requires c =
    let f = c.args.facts.now in
    let n = c.args.self.now.node.0 in
    here_joined f n c.args.self.now.batches c.args.u.0 c.requires.stands.batches (elim c.if-is_unfinished.branch [
      | then-is_unfinished w ↦ right_here f n c.args.t.0 c.args.u.0 (unfinished_typed f n c.args.u.0 c.requires.stands.orderly (sym c.is_unfinished.ensures ∙ w.if-is_unfinished.true))
          (sym w.meet_at.ensures ∙ sym w.value-is ∙ c.if-meet_at.true)
      | else-is_unfinished w ↦ absurd (both_ways _ (w.value-is ∙ w.if-is_unfinished.false) c.if-meet_at.true)
    ])

pub start-requires-then-meet_at : goal.start-requires-then-meet_at
start-requires-then-meet_at c = here_joined c.args.facts.now c.args.self.now.node.0 c.args.self.now.batches c.args.t.0 c.requires.stands.batches c.requires.here
