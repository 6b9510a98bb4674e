use Rattle.std.proofs.Common.{◌∙◌}
use Rattle.script_text.proofs.SessionLists.{lists_none, lists_step}
use Rattle.script_text.proofs.scripts.lists_of.Goals as goal

pub loop-line-init : goal.loop-line-init
loop-line-init c = record { lists = c.in_ok-lists.ensures.lists ∙ lists_none; len = c.in_ok-lists.ensures.len }

pub loop-line-preserved : goal.loop-line-preserved
loop-line-preserved c = record {
  lists = lists_step _ _ _ _ _ c.loop-line-test.true c.loop-line.invariant.lists c.in_ok-add_line.ensures.lists;
  len = c.in_ok-add_line.ensures.len;
}
