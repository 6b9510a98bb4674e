use Rattle.std.proofs.Common.{◌≡◌, ◌++◌, drop}
use Rattle.script_text.specs.Puts.{IsFront, spaced_words}
use Rattle.script_text.proofs.text.word.put_words.Given as goal

abbrev pub invariant-loop-word : goal.invariant-loop-word
invariant-loop-word l = record {
  front : IsFront l.initial.out.items l.out.items;
  rest : l.out.items ++ spaced_words (drop l.word-index l.words) ≡ l.initial.out.items ++ spaced_words l.words;
}
