use Rattle.std.proofs.Common.{◌*◌, ◌+◌, get_or, drop, arith}
use Rattle.std.proofs.lemmas.Grind.{common_steps}
use Rattle.std.specs.Char.{digit_value}
use Rattle.script_text.proofs.Digits.{grows, value_first}
use Rattle.script_text.proofs.script.numbers.long_value_of.Goals as goal

pub returns-in-None : goal.returns-in-None
returns-in-None c = λ all.
    let w = c.args.word.now in
    let i = c.loop-b.b-index in
    grind (arith, common_steps, c.in-None.ensures, value_first w i c.loop-b.total c.loop-b-test.true, grows (c.loop-b.total * 10 + digit_value (get_or w i 0)) (drop (i + 1) w))
