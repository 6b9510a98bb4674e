use Rattle.std.proofs.Common.{[], Some, sym, ap, ◌∙◌, arith}
use Rattle.std.proofs.lemmas.Option.{slice_get-get_or}
use Rattle.tree_writer.specs.Written.{names_array}
use Rattle.tree_writer.proofs.Items.{item_more}
use Rattle.store_setup.specs.profile.Steps.{numbers_of}
use Rattle.tree_writer.proofs.arrays.put_each_step.Goals as goal

pub loop-i-preserved : goal.loop-i-preserved
loop-i-preserved c = item_more (names_array c.args.tables.now) c.args.profile.now c.loop-i.i (numbers_of c.step.result.now) c.loop-i.is_first c.loop-i.out.items c.put_step.new.out.items _
    (slice_get-get_or c.args.profile.now c.loop-i.i [] (omega (arith, c.loop-i-test.true, c.len-i-end.ensures.count)) ∙ ap Some (sym c.step.ensures)) c.in_ok-put_step.ensures c.loop-i.invariant
