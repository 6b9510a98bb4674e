use Rattle.std.proofs.Common.{◌∙◌, ltb, drop, rules, arith}
use Rattle.std.proofs.lemmas.List.{take_all, length-drop}
use Rattle.std.proofs.lemmas.List.Sorted.{IsPartitionedBy-ltb, IsPartitionPoint-from_clause}
use Rattle.teb_rules.specs.declared.names.Txn.{Txn}
use Rattle.teb_rules.specs.history.Live.{number_of}
use Rattle.snapshot_node.proofs.Later.{numbers_rise, part_from}
use Rattle.snapshot_node.proofs.numbered.from_number.Goals as goal

pub returns : goal.returns
returns c =
    let t = c.args.first.0 in
    let us = c.args.txns.now in
    let at = c.partition_point-start.ensures in
    let p = λ (u : Txn). ltb u.0 t in
    take_all _ (drop c.partition_point-start.result us) (omega (arith, length-drop c.partition_point-start.result us))
    ∙ part_from t us c.partition_point-start.result at.bound
    (IsPartitionPoint-from_clause p us c.partition_point-start.result at.partitioned (IsPartitionedBy-ltb number_of us t (numbers_rise us c.requires)) (λ a r f called. search rules))
