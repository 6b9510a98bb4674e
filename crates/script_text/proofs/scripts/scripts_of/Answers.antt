use Rattle.std.proofs.Common.{ap, ◌∙◌, filter, map}
use Rattle.script_text.specs.Scripts.{session, session_numbers}
use Rattle.script_text.specs.Lists.{lists_in, has_list}
use Rattle.script_text.proofs.SessionLists.{scripts_all}
use Rattle.script_text.proofs.scripts.scripts_of.Goals as goal

pub returns : goal.returns
returns c =
    scripts_all _ _ _ c.in_ok-lists.ensures.lists
    (c.in_ok-sessions.ensures ∙ ap (λ l. filter (has_list (lists_in l)) (map session session_numbers)) c.deref.ensures.value)
