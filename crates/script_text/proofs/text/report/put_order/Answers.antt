use Rattle.script_text.proofs.Wholes.{line_ends}
use Rattle.script_text.proofs.text.report.put_order.Goals as goal

pub returns : goal.returns
returns c = line_ends _ _ _ _ _ _ _ c.in_ok-put_text.ensures c.in_ok-put_numbers.ensures c.put_feed.ensures
