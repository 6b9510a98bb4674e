use Rattle.std.proofs.Common.{arith, length-set}
use Rattle.script_text.proofs.WordSteps.{words_more, words_all, words_full}
use Rattle.script_text.proofs.script.words.far_words.Goals as goal

pub loop-word-preserved : goal.loop-word-preserved
loop-word-preserved c = record {
  long = omega (arith, length-set c.loop-word.words c.loop-word.len c.in-Some.word);
  within = omega arith;
  words = words_more _ _ _ _ _ _ (omega arith) c.loop-word.invariant.words c.in-Some.ensures.steps;
}

pub returns-then-len-eq6-clause-words : goal.returns-then-len-eq6-clause-words
returns-then-len-eq6-clause-words c = words_full _ _ _ _ c.if-len-eq6.true c.loop-word.invariant.long c.loop-word.invariant.words

pub returns-clause-words : goal.returns-clause-words
returns-clause-words c = words_all _ _ _ _ c.loop-word.invariant.within c.loop-word.invariant.words c.in-None.ensures.steps.0
