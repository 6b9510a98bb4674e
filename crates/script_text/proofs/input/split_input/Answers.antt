use Rattle.std.proofs.Common.{length, sym, ◌∙◌, ap, arith, length-drop}
use Rattle.script_text.proofs.InputSteps.{turn_found, turn_none, turn_more}
use Rattle.script_text.proofs.input.split_input.Goals as goal

pub returns-then-is_separator : goal.returns-then-is_separator
returns-then-is_separator c =
    turn_found _ _ _ _ c.loop-at.invariant.rest c.after-rest.ensures c.line_len-len.ensures.end _ c.line_len-len.ensures.within
    (sym c.is_separator.ensures ∙ c.if-is_separator.true) c.after_line.ensures

pub returns-then-len-rest : goal.returns-then-len-rest
returns-then-len-rest c =
    turn_none c.args.bytes.now c.after-rest.result.now c.loop-at.at c.line_len-len.result c.loop-at.invariant.rest c.after-rest.ensures c.line_len-len.ensures.end (omega arith)
    (sym c.is_separator.ensures ∙ c.if-is_separator.false)

pub loop-at-preserved : goal.loop-at-preserved
loop-at-preserved c = record {
  within = omega (arith, ap length c.after-rest.ensures, length-drop c.loop-at.at c.args.bytes.now);
  rest = turn_more _ _ _ _ c.loop-at.invariant.rest c.after-rest.ensures c.line_len-len.ensures.end (omega arith) (sym c.is_separator.ensures ∙ c.if-is_separator.false);
}
