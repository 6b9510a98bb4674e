use Rattle.std.proofs.Common.{arith}
use Rattle.script_text.proofs.FrontSteps.{feed_at, words_cut}
use Rattle.script_text.proofs.script.fronts.padded_len.Goals as goal

pub returns-then-end-gt-LANES-clause-end : goal.returns-then-end-gt-LANES-clause-end
returns-then-end-gt-LANES-clause-end c =
    feed_at c.args.text.now _ c.requires.long c.in_ok-end.ensures.end c.in_ok-end.ensures.within c.requires.feeds c.if-text-end-eq10.true

pub returns-then-end-gt-LANES-clause-words : goal.returns-then-end-gt-LANES-clause-words
returns-then-end-gt-LANES-clause-words c = words_cut c.args.text.now _ c.requires.long c.in_ok-end.ensures.end c.in_ok-end.ensures.within (omega arith)
