use Rattle.snapshot_node.specs.Asking.{AreLate}
use Rattle.snapshot_node.proofs.RecentAcross.{late_ascend, late_here}
use Rattle.snapshot_node.proofs.recent.Recent.among.Goals as goal

pub returns : goal.returns
returns c =
    let r = c.args.self.now in
    let all = c.args.txns.now in
    let us = c.from_number.result.now in
    let late : AreLate r.asked r.t.0 all us = record { from = r.horizon.0; below = r.below; are = c.from_number.ensures } in
    record {
      ascending = late_ascend r.asked r.t.0 all us late c.requires.ascending;
      here = late_here r.asked r.t.0 all us late c.requires.txns_here;
      late = late;
    }
