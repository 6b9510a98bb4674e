use Rattle.std.proofs.Common.{◌∷◌, [], arith}
use Rattle.script_text.proofs.Tails.{length_magnitude, length_in_front}
use Rattle.script_text.proofs.text.tail.Tail.put_integer.Goals as goal

pub put-requires : goal.put-requires
put-requires g c = omega (arith, length_in_front _ _ _ _ c.put_digits.ensures (length_magnitude _ c.unsigned_abs.ensures.bound))

pub returns-then-n-lt0-clause-short : goal.returns-then-n-lt0-clause-short
returns-then-n-lt0-clause-short g c =
    omega (arith, length_in_front (45 ∷ []) _ _ 1 c.put.ensures (omega arith), length_in_front _ _ _ _ c.put_digits.ensures (length_magnitude _ c.unsigned_abs.ensures.bound))

pub returns-else-n-lt0-clause-short : goal.returns-else-n-lt0-clause-short
returns-else-n-lt0-clause-short g c = omega (arith, length_in_front _ _ _ _ c.put_digits.ensures (length_magnitude _ c.unsigned_abs.ensures.bound))
