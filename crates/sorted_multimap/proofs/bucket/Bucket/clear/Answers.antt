use Rattle.std.proofs.Common.{◌∙◌, sym}
use Rattle.sorted_multimap.proofs.BucketEdits.{range_none, left_alone, cut_edited}
use Rattle.sorted_multimap.proofs.bucket.Bucket.clear.Goals as goal

pub returns-then-start-end : goal.returns-then-start-end
returns-then-start-end g c =
    let R = g.K.Ord.cmp in
    let total = g.met.K.Ord.total in
    let at = c.range_of-start.ensures in
    left_alone R total c.args.self.now c.requires c.args.key _ (range_none R total c.args.self.now c.requires c.args.key (sym at.start ∙ c.if-start-end.true ∙ at.end))

pub returns : goal.returns
returns g c =
    let at = c.range_of-start.ensures in
    cut_edited g.K.Ord.cmp g.met.K.Ord.total c.args.self.now c.requires _ c.args.key _ _ at.start at.end c.cut.ensures.items c.cut-2.ensures.items
    c.cut.ensures.len c.cut-2.ensures.len c.cut.ensures.capacity c.cut-2.ensures.capacity
