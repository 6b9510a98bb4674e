use Rattle.std.proofs.Common.{◌∙◌, get_or, refl}
use Rattle.teb_rules.specs.declared.names.Txn.{Txn}
use Rattle.sorted_multimap.specs.Multimap.{values_in}
use Rattle.sorted_multimap.specs.Keys.{txn_cmp}
use Rattle.runtime_pipeline.specs.Predecessors.{without}
use Rattle.runtime_pipeline.proofs.ListEdits.{edited, taking_more}
use Rattle.runtime_pipeline.proofs.predecessors.take_out.Goals as goal

pub take_by_number-requires : goal.take_by_number-requires
take_by_number-requires c = c.loop-u.invariant.ascending _

pub loop-u-preserved : goal.loop-u-preserved
loop-u-preserved c =
    let d : Txn = record { 0 = 0 } in
    let f = λ (v : Txn). values_in txn_cmp c.loop-u.lists v in
    taking_more c.args.t.0 c.args.behind.now c.args.lists.now c.loop-u.lists c.take_by_number.new.self c.loop-u.u-index d c.loop-u-test.true c.loop-u.invariant
    (λ v. c.take_by_number.ensures.values v ∙ edited f (without c.args.t.0) (get_or c.args.behind.now c.loop-u.u-index d) v _ refl) c.take_by_number.ensures.spare
