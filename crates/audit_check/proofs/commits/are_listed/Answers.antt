use Rattle.std.proofs.Common.{◌∙◌}
use Rattle.audit_check.specs.Marks.{is_marked}
use Rattle.audit_check.proofs.OrderRules.{commits_pass}
use Rattle.audit_check.proofs.commits.are_listed.Goals as goal

pub returns : goal.returns
returns c = c.all_pass.ensures ∙ commits_pass (is_marked c.args.listed.now) c.args.lines.now
