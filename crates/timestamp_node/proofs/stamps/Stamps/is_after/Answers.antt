use Rattle.std.proofs.Common.{◌∙◌, sym}
use Rattle.timestamp_node.proofs.Here.{here_joined, right_here}
use Rattle.timestamp_node.proofs.stamps.Stamps.is_after.Goals as goal

pub start-requires : goal.start-requires
start-requires g c = here_joined c.args.facts.now c.args.self.now.node.0 c.args.self.now.batches c.args.t.0 c.requires.stands.batches c.requires.here

pub start-requires-then-meet_at : goal.start-requires-then-meet_at
start-requires-then-meet_at g c =
    let f = c.args.facts.now in
    let n = c.args.self.now.node.0 in
    let reader = c.args.read.0.0 in
    here_joined f n c.args.self.now.batches reader c.requires.stands.batches (right_here f n c.args.t.0 reader c.requires.reader (sym c.meet_at.ensures ∙ c.if-meet_at.true))
