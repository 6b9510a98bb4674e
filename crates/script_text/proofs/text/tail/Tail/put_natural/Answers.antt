use Rattle.std.proofs.Common.{◌+◌, ◌/◌, ◌∷◌, ap, ◌∙◌, arith}
use Rattle.script_text.proofs.Tails.{length_natural, length_in_front, one_digit, two_digits}
use Rattle.script_text.proofs.text.tail.Tail.put_natural.Goals as goal

pub returns-then-n-lt10-clause-text : goal.returns-then-n-lt10-clause-text
returns-then-n-lt10-clause-text g c = c.put_digit.ensures ∙ one_digit c.args.n _ (omega arith)

pub returns-then-n-lt100-clause-text : goal.returns-then-n-lt100-clause-text
returns-then-n-lt100-clause-text g c =
    c.put_digit-then-n-lt100-2.ensures ∙ ap (λ l. (48 + c.args.n / 10) ∷ l) c.put_digit-then-n-lt100.ensures ∙ two_digits c.args.n _ (omega arith) (omega arith)

pub returns-else-n-lt100-clause-short : goal.returns-else-n-lt100-clause-short
returns-else-n-lt100-clause-short g c = length_in_front _ _ _ 10 c.put_digits.ensures (length_natural c.from.result (omega (arith, c.ranges.n.fits)))
