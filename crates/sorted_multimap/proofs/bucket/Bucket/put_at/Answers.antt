use Rattle.std.proofs.Common.{arith}
use Rattle.sorted_multimap.proofs.BucketEdits.{range_within, put_edited}
use Rattle.sorted_multimap.proofs.bucket.Bucket.put_at.Goals as goal

pub put_in-requires-clause-within : goal.put_in-requires-clause-within
put_in-requires-clause-within g c = omega (arith, c.requires.top, range_within g.K.Ord.cmp g.met.K.Ord.total c.args.self.now c.requires.sorted c.args.key)

pub put_in-requires-2-clause-within : goal.put_in-requires-2-clause-within
put_in-requires-2-clause-within g c = omega (arith, c.requires.top, c.requires.sorted.paired, range_within g.K.Ord.cmp g.met.K.Ord.total c.args.self.now c.requires.sorted c.args.key)

pub returns : goal.returns
returns g c =
    put_edited g.K.Ord.cmp g.met.K.Ord.total c.args.self.now c.requires.sorted _ c.args.key c.args.at c.args.value c.requires.low c.requires.top c.put_in.ensures.items c.put_in-2.ensures.items
    c.put_in.ensures.len c.put_in-2.ensures.len c.put_in.ensures.capacity c.put_in-2.ensures.capacity
