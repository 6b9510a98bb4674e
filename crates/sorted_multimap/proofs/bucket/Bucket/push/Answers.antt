use Rattle.std.proofs.Common.{ℕ, ◌-◌, ◌∙◌, ap, insert}
use Rattle.sorted_multimap.specs.Buckets.{bucket_values, lows}
use Rattle.sorted_multimap.proofs.BucketEdits.{reworded, put_behind}
use Rattle.sorted_multimap.proofs.bucket.Bucket.push.Goals as goal

pub returns : goal.returns
returns g c =
    let R = g.K.Ord.cmp in
    let total = g.met.K.Ord.total in
    let p = c.args.self.now in
    let k = c.args.key in
    reworded R total p c.requires.sorted c.put_at.new.self k _ _ 1
    (ap (λ (m : ℕ). insert (bucket_values R p k) (m - lows R p.keys.items k) c.args.value) c.range_of-end.ensures.end ∙ put_behind R total p c.requires.sorted k c.args.value)
    c.put_at.ensures
