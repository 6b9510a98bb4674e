use Rattle.std.proofs.Common.{rules}
use Rattle.std.specs.Ordering.{is_lt}
use Rattle.std.proofs.lemmas.List.Sorted.{IsPartitionPoint-from_clause}
use Rattle.sorted_multimap.proofs.SortedEntries.{parted, lows_fall, passing_parted}
use Rattle.sorted_multimap.proofs.bucket.search_first.Goals as goal

pub returns : goal.returns
returns g c =
    let R = g.K.Ord.cmp in
    let total = g.met.K.Ord.total in
    let ks = c.args.keys.now in
    let at = c.partition_point.ensures in
    let p = λ (j : _). is_lt (R j c.args.key) in
    passing_parted p ks c.partition_point.result at.bound (IsPartitionPoint-from_clause p ks c.partition_point.result at.partitioned (parted R total p (lows_fall R total c.args.key) ks c.requires)
    (λ a r f called. search rules))
