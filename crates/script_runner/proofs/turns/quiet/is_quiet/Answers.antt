use Rattle.std.proofs.Common.{not, ap, ◌∙◌}
use Rattle.script_runner.proofs.lemmas.turns.AtWork.{quiet_live}
use Rattle.script_runner.proofs.turns.quiet.is_quiet.Goals as goal

pub returns : goal.returns
returns c = ap not c.is_any_at_work.ensures ∙ quiet_live c.args.history.now.events
