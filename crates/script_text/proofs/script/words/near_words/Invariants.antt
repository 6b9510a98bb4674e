use Rattle.std.proofs.Common.{◌≡◌, ◌≤◌, ◌-◌, ◌/◌, ◌^◌, ◌++◌, drop, take, length}
use Rattle.script_text.specs.Words.{nows, words_of}
use Rattle.script_text.proofs.script.words.near_words.Given as goal

abbrev pub invariant-loop-rest : goal.invariant-loop-rest
invariant-loop-rest l = record {
  long : length l.words ≡ 6;
  count : l.len ≤ 6;
  within : l.at ≤ length l.line;
  ahead : l.rest ≡ l.inside / 2 ^ l.at;
  words : nows (take l.len l.words) ++ words_of (drop l.at l.line) ≡ words_of l.line;
}

abbrev pub decreases-loop-rest : goal.decreases-loop-rest
decreases-loop-rest l = 6 - l.len
