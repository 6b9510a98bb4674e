use Rattle.std.proofs.Common.{◌||◌, cond, ap, Bool}
use Rattle.teb_rules.specs.history.Ascending.{put_by}
use Rattle.sorted_multimap.specs.Buckets.{bucket_values}
use Rattle.sorted_multimap.proofs.BucketEdits.{one_taken}
use Rattle.sorted_multimap.proofs.bucket.Bucket.join_among.Goals as goal

pub returns-then-held-clause-edited : goal.returns-then-held-clause-edited
returns-then-held-clause-edited g c h =
    let vs = bucket_values g.K.Ord.cmp c.args.self.now c.args.key in
    one_taken g.K.Ord.cmp g.met.K.Ord.total c.args.self.now c.requires.sorted c.put_in_place.new.self c.args.key _ _ c.put_in_place.result
    (ap (λ (b : Bool). cond (c.args.replace || b) (put_by g.V.Numbered.numbered_by c.args.value vs) vs) c.put_in_place.ensures.added) c.put_in_place.ensures.edited
