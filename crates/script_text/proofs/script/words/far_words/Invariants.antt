use Rattle.std.proofs.Common.{◌≡◌, ◌≤◌, ◌++◌, take, length}
use Rattle.script_text.specs.Words.{nows, words_of}
use Rattle.script_text.proofs.script.words.far_words.Given as goal

abbrev pub invariant-loop-word : goal.invariant-loop-word
invariant-loop-word l = record {
  long : length l.words ≡ 6;
  within : l.len ≤ 6;
  words : nows (take l.len l.words) ++ words_of l.word-iterator.0.now ≡ words_of l.line;
}
