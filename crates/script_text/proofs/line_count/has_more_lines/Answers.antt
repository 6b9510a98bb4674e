use Rattle.std.proofs.Common.{arith}
use Rattle.std.proofs.lemmas.Bool.Decides.{nat_tests}
use Rattle.script_text.proofs.LineSteps.{lines_by_feeds}
use Rattle.script_text.proofs.line_count.has_more_lines.Goals as goal

pub returns-else-count_feeds-most : goal.returns-else-count_feeds-most
returns-else-count_feeds-most c = grind (arith, nat_tests, lines_by_feeds c.args.script.now, c.count_feeds.ensures, c.if-count_feeds-most.false)
