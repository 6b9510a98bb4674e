use Rattle.std.proofs.Common.{◌≡◌, ◌++◌, drop, map}
use Rattle.script_text.specs.Puts.{spaced}
use Rattle.line_words.specs.Words.{word_text}
use Rattle.line_words.proofs.put_spaced.Given as goal

abbrev pub invariant-loop-word : goal.invariant-loop-word
invariant-loop-word l = l.out.items ++ spaced (map word_text (drop l.word-index l.words)) ≡ l.initial.out.items ++ spaced (map word_text l.words)
