use Rattle.std.proofs.Common.{arith}
use Rattle.crash_runner.proofs.Copies.{copied_more}
use Rattle.crash_runner.proofs.start.copy_of.Goals as goal

pub loop-i-preserved : goal.loop-i-preserved
loop-i-preserved c = record {
  within = omega (arith, c.loop-i-test.true, c.len-i-end.ensures.count);
  first = copied_more c.args.names.now c.loop-i.copy c.add.new.self c.loop-i.i c.name.result.now c.in_ok-add.field-0 c.loop-i.invariant.first c.name.ensures.name c.name.ensures.number
      c.in_ok-add.ensures.added.0 c.in_ok-add.ensures.added.1;
}
