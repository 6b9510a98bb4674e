use Rattle.std.proofs.Common.{◌-◌, ◌∙◌, ap, arith, take, drop, List}
use Rattle.sorted_multimap.specs.Buckets.{lows, tops}
use Rattle.sorted_multimap.proofs.BucketEdits.{range_order, range_within, range_values}
use Rattle.sorted_multimap.proofs.bucket.Bucket.range_of.Goals as goal

pub returns-clause-start : goal.returns-clause-start
returns-clause-start g c = c.first-start.ensures ∙ ap (λ (l : List _). lows g.K.Ord.cmp l c.args.key) c.deref.ensures.value

pub returns-clause-end : goal.returns-clause-end
returns-clause-end g c = c.end_from-end.ensures ∙ ap (λ (l : List _). tops g.K.Ord.cmp l c.args.key) c.deref-2.ensures.value

pub returns-clause-order : goal.returns-clause-order
returns-clause-order g c = omega (arith, returns-clause-start g c, returns-clause-end g c, range_order g.K.Ord.cmp g.met.K.Ord.total c.args.self.now c.requires c.args.key)

pub returns-clause-within : goal.returns-clause-within
returns-clause-within g c = omega (arith, returns-clause-end g c, c.requires.paired, range_within g.K.Ord.cmp g.met.K.Ord.total c.args.self.now c.requires c.args.key)

pub returns-clause-values : goal.returns-clause-values
returns-clause-values g c =
    (λ j. take (returns-clause-end g c j - returns-clause-start g c j) (drop (returns-clause-start g c j) c.args.self.now.values.items))
    ∙ range_values g.K.Ord.cmp g.met.K.Ord.total c.args.self.now c.requires c.args.key
