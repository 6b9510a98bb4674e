use Rattle.std.proofs.Common.{◌≡◌, drop}
use Rattle.std.specs.Str.{all_ascii_digits}
use Rattle.std.specs.Str.Parse.{digits_value_after, digits_value}
use Rattle.script_text.proofs.script.numbers.long_value_of.Given as goal

abbrev pub invariant-loop-b : goal.invariant-loop-b
invariant-loop-b l = record {
  digits : all_ascii_digits (drop l.b-index l.word) ≡ all_ascii_digits l.word;
  value : digits_value_after 10 l.total (drop l.b-index l.word) ≡ digits_value 10 l.word;
}
