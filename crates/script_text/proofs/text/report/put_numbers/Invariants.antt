use Rattle.std.proofs.Common.{◌≡◌, ◌++◌, drop, map}
use Rattle.script_text.specs.Texts.{txn_text}
use Rattle.script_text.specs.Puts.{IsFront, spaced}
use Rattle.script_text.proofs.text.report.put_numbers.Given as goal

abbrev pub invariant-loop-txn : goal.invariant-loop-txn
invariant-loop-txn l = record {
  front : IsFront l.initial.out.items l.out.items;
  rest : l.out.items ++ spaced (map txn_text (drop l.txn-index l.txns)) ≡ l.initial.out.items ++ spaced (map txn_text l.txns);
}
