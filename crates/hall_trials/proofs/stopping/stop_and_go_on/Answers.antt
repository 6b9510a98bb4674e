use Rattle.std.proofs.Common.{◌≡◌, List, [], sym, ◌∙◌, ap, subst}
use Rattle.teb_rules.specs.declared.names.Entry.{Entry}
use Rattle.teb_rules.specs.Run.{replies_of}
use Rattle.teb_rules.specs.Scripts.{IsWay, WayFrom, at_first, state_after, entries_of}
use Rattle.script_text.specs.declared.Line.{Line}
use Rattle.script_walk.specs.ScriptStates.{requests_on, state_of}
use Rattle.script_walk.specs.declared.walker.Walker.{Walker}
use Rattle.session_tasks.specs.Walks.{IsUnderWay}
use Rattle.hall_trials.proofs.stopping.stop_and_go_on.Goals as goal

-- a session that has asked nothing is at its first line
begins : (lines : List Line) (entries : List Entry) (w : Walker) → entries ≡ [] → state_of lines w ≡ at_first (requests_on lines) → IsUnderWay lines entries w
unfolding WayFrom state_after
begins lines entries w none first = record {
  way = subst (IsWay (requests_on lines)) (sym none) tt;
  stands = first ∙ sym (ap (λ (es : List Entry). state_after (at_first (requests_on lines)) (replies_of es)) none);
}

pub serve-stopped-requires-clause-way : goal.serve-stopped-requires-clause-way
serve-stopped-requires-clause-way g c = begins _ _ _ (ap (entries_of c.args.pass.now.session.0) c.requires.seen) (c.new-walker.ensures _)
