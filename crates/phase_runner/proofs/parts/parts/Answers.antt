use Rattle.std.proofs.Common.{sym, arith}
use Rattle.phase_runner.proofs.Parted.{one_cut, shorter}
use Rattle.phase_runner.proofs.parts.parts.Goals as goal

pub loop-part-smaller : goal.loop-part-smaller
loop-part-smaller c = omega (arith, shorter c.loop-part.rest.now c.in-Some.part.now c.in-Some.behind.now (sym c.in-Some.ensures))

pub loop-part-preserved : goal.loop-part-preserved
loop-part-preserved c =
    one_cut c.args.bytes.now c.loop-part.rest.now c.in-Some.behind.now c.loop-part.parts.items c.push.new.self.items c.in-Some.part (sym c.in-Some.ensures) c.in_ok-push.ensures.items
    c.loop-part.invariant
