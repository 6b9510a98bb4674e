use Rattle.std.proofs.Common.{arith}
use Rattle.teb_rules.proofs.lemmas.history.Kept.{kept_none}
use Rattle.teb_rules.proofs.history.history.History.new.Goals as goal

pub invariant_of-result : goal.invariant_of-result
invariant_of-result c = record {
  kept = kept_none _ _ _ _ c.new.ensures.items c.new-2.ensures.items c.new-3.ensures.items c.new-4.ensures.items;
  events = omega arith;
  previous = omega arith;
  standings = omega arith;
  live = omega arith;
}
