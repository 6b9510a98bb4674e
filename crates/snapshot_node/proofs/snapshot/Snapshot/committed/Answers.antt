use Rattle.std.proofs.Common.{◌∙◌}
use Rattle.phase_api.specs.FactsView.{setup_of, events_of}
use Rattle.snapshot_node.specs.Standing.{has_committed_in}
use Rattle.snapshot_node.proofs.Listed.{listed, committer_begun}
use Rattle.snapshot_node.proofs.snapshot.Snapshot.committed.Goals as goal

pub returns : goal.returns
returns c =
    let S = setup_of c.args._facts.now in
    let H = events_of c.args._facts.now in
    let n = c.args.self.now.register.node.0 in
    let x = c.args.cell in
    let o = c.requires.register.orderly in
    c.committed.ensures ∙ listed (has_committed_in S H n x) H o (committer_begun S H n x o) _ (c.requires.register.filed.committed x) (c.requires.committed.put x)
