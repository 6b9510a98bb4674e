use Rattle.std.proofs.Common.{rules}
use Rattle.script_text.proofs.Wholes.{front_front}
use Rattle.script_text.proofs.text.report.put_rows.Goals as goal

pub returns-in_err-put_row-clause-text : goal.returns-in_err-put_row-clause-text
returns-in_err-put_row-clause-text c = search (rules, front_front c.loop-row.invariant.front c.in_err-put_row.ensures.text)
