use Rattle.std.proofs.Common.{arith}
use Rattle.script_text.proofs.SessionLists.{lists_set}
use Rattle.script_text.proofs.scripts.add_line.Goals as goal

pub returns-clause-lists : goal.returns-clause-lists
returns-clause-lists c =
    lists_set _ _ _ _ _ c.place.ensures.place (omega (arith, c.args.lists.now.ok.0)) c.index_mut.ensures.value c.in_ok-push.ensures.items
