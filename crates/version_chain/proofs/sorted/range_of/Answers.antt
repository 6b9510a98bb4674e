use Rattle.std.proofs.Common.{rules, sym, subst}
use Rattle.std.specs.List.Sorted.{IsPartitionedBy}
use Rattle.std.proofs.lemmas.List.Sorted.{IsPartitionPoint-from_clause}
use Rattle.version_chain.proofs.Ranges.{is_before, is_of, parted_before, parted_of, ranged, tail_is}
use Rattle.version_chain.proofs.sorted.range_of.Goals as goal

pub returns : goal.returns
returns c =
    let vs = c.args.versions.now in
    let x = c.args.cell in
    let start = c.partition_point-start.result in
    let within = c.partition_point-start.ensures.bound in
    let tail = tail_is vs start in
    let starts = IsPartitionPoint-from_clause (is_before x) vs start c.partition_point-start.ensures.partitioned (parted_before vs x c.requires) (λ a r f called. search rules) in
    let ends = IsPartitionPoint-from_clause (is_of x) _ c.partition_point-len.result c.partition_point-len.ensures.partitioned
    (subst (IsPartitionedBy (is_of x)) (sym tail) (parted_of vs x c.requires start within starts)) (λ a r f called. search rules) in
    ranged vs x c.requires start within starts c.partition_point-len.result (rw tail at c.partition_point-len.ensures.bound) (rw tail at ends)
