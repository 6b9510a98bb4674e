use Rattle.std.proofs.Common.{◌≡◌, ◌++◌, length}
use Rattle.std.specs.Vec.Iter.{into_iter_items, into_iter_len}
use Rattle.command_words.proofs.behind_first.Given as goal

-- the words so far, then those to come
abbrev pub invariant-loop-word : goal.invariant-loop-word
invariant-loop-word l = record {
  all : l.words.items ++ into_iter_items l.word-iterator ≡ into_iter_items l.fn.args;
  left : into_iter_len l.word-iterator ≡ length (into_iter_items l.word-iterator);
}
