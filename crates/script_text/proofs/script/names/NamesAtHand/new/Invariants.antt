use Rattle.std.proofs.Common.{◌≡◌, length}
use Rattle.script_text.specs.AtHand.{AreNumbered}
use Rattle.script_text.specs.Words.{nows}
use Rattle.script_text.proofs.script.names.NamesAtHand.new.Given as goal

abbrev pub invariant-loop-i : goal.invariant-loop-i
invariant-loop-i l = record {
  long : length l.first ≡ 4;
  numbered : AreNumbered l.all (nows l.first);
}
