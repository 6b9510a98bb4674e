use Rattle.std.proofs.Common.{arith}
use Rattle.script_text.proofs.Digits.{below}
use Rattle.script_text.proofs.script.numbers.short_value_of.Goals as goal

pub overflow_mul-total : goal.overflow_mul-total
overflow_mul-total c = omega (arith, below 18 c.loop-b.total c.loop-b.b-index c.loop-b.invariant.short (omega arith))

pub overflow_add-total : goal.overflow_add-total
overflow_add-total c =
    omega (arith, below 18 c.loop-b.total c.loop-b.b-index c.loop-b.invariant.short (omega arith), c.in_ok-total.ensures.2)
