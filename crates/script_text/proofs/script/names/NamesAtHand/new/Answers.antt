use Rattle.std.proofs.Common.{refl, sym, ap, ◌∙◌, arith, length-set}
use Rattle.teb_rules.specs.names.Names.{number_of}
use Rattle.script_text.proofs.NameSteps.{none_numbered, numbered_more}
use Rattle.script_text.proofs.script.names.NamesAtHand.new.Goals as goal

pub loop-i-init : goal.loop-i-init
loop-i-init c = record { long = refl; numbered = none_numbered c.args.all.now }

pub loop-i-preserved : goal.loop-i-preserved
loop-i-preserved c = record {
  long = length-set _ _ _ ∙ c.loop-i.invariant.long;
  numbered =
      numbered_more c.args.all.now _ _ _ (omega (arith, c.loop-i.invariant.long)) c.loop-i.invariant.numbered (sym c.is_name.ensures ∙ c.if-not-is_name.false)
      (ap (number_of c.args.all.now) c.as_bytes-name.ensures.value ∙ c.name.ensures.number);
}
