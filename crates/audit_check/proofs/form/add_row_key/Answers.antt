use Rattle.std.proofs.Common.{refl}
use Rattle.audit_check.specs.contracts.line.RowKeyPartialEq.TheImpl.{eq-value}
use Rattle.audit_check.proofs.Cells.{has_row_keys}
use Rattle.audit_check.proofs.form.add_row_key.Goals as goal

pub returns-clause-new : goal.returns-clause-new
returns-clause-new c = rw (← (has_row_keys eq-value.it (λ p q. refl) c.args.set.now.keys c.args.row_key)) c.insert.ensures.added
