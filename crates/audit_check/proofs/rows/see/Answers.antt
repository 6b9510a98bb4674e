use Rattle.std.proofs.lemmas.Result.{on_ok_weaker}
use Rattle.audit_check.proofs.RowSteps.{row_seen}
use Rattle.audit_check.proofs.rows.see.Goals as goal

pub returns-in-Row : goal.returns-in-Row
returns-in-Row c = on_ok_weaker c.see_row_key.result (λ keys past seen. rw c.in-Row.is (row_seen _ _ c.in-Row.row_key _ past keys seen)) c.see_row_key.ensures
