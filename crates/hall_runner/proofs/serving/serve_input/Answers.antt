use Rattle.std.proofs.Common.{List, sym, ◌∙◌, ap, subst}
use Rattle.teb_rules.specs.declared.names.Session.{Session}
use Rattle.teb_rules.specs.Driver.{Ascending}
use Rattle.script_text.specs.declared.Line.{Line}
use Rattle.script_text.specs.Scripts.{scripts_of}
use Rattle.script_runner.specs.turns.Seats.{scripts_on}
use Rattle.script_runner.proofs.lemmas.turns.SessionOrder.{scripts_ascend}
use Rattle.hall_runner.proofs.serving.serve_input.Goals as goal

pub serve_scripts-requires-clause-ascending : goal.serve_scripts-requires-clause-ascending
serve_scripts-requires-clause-ascending g c κs within =
    subst (λ (ss : List (Session × List Line)). Ascending 0 (scripts_on ss)) (sym (c.in_ok-scripts.ensures ∙ ap scripts_of c.deref.ensures.value))
    (scripts_ascend c.into_parts-setup.result.1.items c.into_parts-setup.ensures.lines.1)
