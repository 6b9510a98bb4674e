use Rattle.std.proofs.Common.{length-set, ◌∙◌, arith}
use Rattle.script_text.proofs.NearWords.{none_left, rest_behind, stop_within, word_ahead}
use Rattle.script_text.proofs.WordSteps.{words_all, words_more}
use Rattle.script_text.proofs.script.words.near_words.Goals as goal

pub slice_bounds-words-end : goal.slice_bounds-words-end
slice_bounds-words-end c =
    omega (arith, stop_within c.args.line.now _ _ _ c.requires.short c.requires.mask c.loop-rest.invariant.within c.loop-rest.invariant.ahead c.loop-rest-test.true _ c.trailing_ones-long.ensures)

pub loop-rest-preserved : goal.loop-rest-preserved
loop-rest-preserved c =
    let line = c.args.line.now in
    let room = c.loop-rest.invariant.within in
    let ahead = c.loop-rest.invariant.ahead in
    record {
      long = length-set _ _ _ ∙ c.loop-rest.invariant.long;
      count = omega arith;
      within = stop_within line _ _ _ c.requires.short c.requires.mask room ahead c.loop-rest-test.true _ c.trailing_ones-long.ensures;
      ahead = rest_behind line _ _ _ c.requires.short c.requires.mask room ahead c.loop-rest-test.true _ c.trailing_ones-long.ensures;
      words = words_more _ _ _ _ _ _ (omega arith) c.loop-rest.invariant.words (word_ahead line _ _ _ c.requires.short c.requires.mask room ahead c.loop-rest-test.true _ c.trailing_ones-long.ensures);
    }

pub returns-after-loop-rest-clause-words : goal.returns-after-loop-rest-clause-words
returns-after-loop-rest-clause-words c =
    words_all _ _ _ _ c.loop-rest.invariant.count c.loop-rest.invariant.words
    (none_left c.args.line.now _ _ _ c.requires.short c.requires.mask c.loop-rest.invariant.within c.loop-rest.invariant.ahead c.loop-rest-test.false)
