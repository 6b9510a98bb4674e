use Rattle.audit_check.proofs.FormSteps.{none_yet}
use Rattle.audit_check.proofs.form.add_lines.Goals as goal

pub take_parts-requires-clause-cells : goal.take_parts-requires-clause-cells
take_parts-requires-clause-cells c = none_yet _ _ c.new.ensures.empty c.new-2.ensures.empty
