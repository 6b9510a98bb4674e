use Rattle.std.proofs.Common.{refl, add-one}
use Rattle.static_steps.specs.Squares.{leads_in, closure}
use Rattle.static_steps.proofs.Closures.{closure_more}
use Rattle.static_steps.proofs.closure.close.Goals as goal

pub loop-through-init : goal.loop-through-init
unfolding closure
loop-through-init c = λ a b. refl

pub loop-through-preserved : goal.loop-through-preserved
loop-through-preserved c = rw add-one (closure_more (leads_in c.args.rows.now) c.loop-through.rows c.close_through.new.rows c.loop-through.through c.loop-through.invariant c.close_through.ensures)
