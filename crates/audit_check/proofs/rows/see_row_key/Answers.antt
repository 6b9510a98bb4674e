use Rattle.std.proofs.Common.{refl}
use Rattle.audit_check.specs.contracts.line.RowKeyPartialEq.TheImpl.{eq-value}
use Rattle.audit_check.proofs.Cells.{has_row_keys}
use Rattle.audit_check.proofs.rows.see_row_key.Goals as goal

pub returns : goal.returns
returns c = rw (← (has_row_keys eq-value.it (λ p q. refl) c.args.seen.now.keys c.args.row_key)) c.in_ok-insert.ensures.keys
