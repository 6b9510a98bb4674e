use Rattle.std.proofs.Common.{inl, arith}
use Rattle.script_text.proofs.LineSteps.{lines_length}
use Rattle.script_text.proofs.line_count.count_lines.Goals as goal

pub count-requires-clause-fits : goal.count-requires-clause-fits
count-requires-clause-fits c = inl (omega (arith, lines_length c.args.script.now))
