use Rattle.std.proofs.Common.{◌≡◌, ◌++◌, drop, map}
use Rattle.script_text.specs.Puts.{spaced}
use Rattle.script_text.specs.Texts.{txn_text}
use Rattle.shell_lines.proofs.answers.put_txns.Given as goal

abbrev pub invariant-loop-txn : goal.invariant-loop-txn
invariant-loop-txn l = l.out.items ++ spaced (map txn_text (drop l.txn-index l.txns)) ≡ l.initial.out.items ++ spaced (map txn_text l.txns)
