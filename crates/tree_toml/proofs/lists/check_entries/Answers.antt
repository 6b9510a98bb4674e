use Rattle.std.proofs.Common.{arith}
use Rattle.tree_toml.specs.Fields.{entry_form}
use Rattle.tree_toml.proofs.Each.{each_fault, each_more, each_end}
use Rattle.tree_toml.proofs.lists.check_entries.Goals as goal

pub returns-then-not-is_entry : goal.returns-then-not-is_entry
returns-then-not-is_entry c =
    each_fault (entry_form c.args.list) _ _ _ _ _ _ _ c.loop-value.invariant.rest c.value-item.is c.loop-value-test.true
    (rw (← c.is_entry.ensures, c.if-not-is_entry.true, c.fault.ensures, c.place.ensures))

pub loop-value-preserved : goal.loop-value-preserved
loop-value-preserved c = record {
  count = omega arith;
  rest = each_more (entry_form c.args.list) _ _ _ _ _ _ _ c.loop-value.invariant.rest c.value-item.is c.loop-value-test.true (rw (← c.is_entry.ensures, c.if-not-is_entry.false));
}

pub returns : goal.returns
returns c = each_end (entry_form c.args.list) _ _ _ _ _ c.loop-value.invariant.rest c.loop-value-test.false
