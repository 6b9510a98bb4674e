use Rattle.std.proofs.Common.{arith}
use Rattle.audit_check.proofs.FormSteps.{few_parts}
use Rattle.tebaldi_c.proofs.auditing.tebaldi_audit.Goals as goal

pub audit-requires : goal.audit-requires
audit-requires c = few_parts c.args.text.now (omega arith)
