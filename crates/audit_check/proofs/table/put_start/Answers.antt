use Rattle.std.proofs.Common.{rules, ℤ, Some, subst, w64}
use Rattle.std.specs.Prelude.{FitsSigned}
use Rattle.std.proofs.lemmas.Int.{to_z-of_z}
use Rattle.std.proofs.lemmas.Result.{on_ok_weaker}
use Rattle.audit_check.specs.Keeps.{HoldsTable}
use Rattle.audit_check.specs.Tables.{put_at, starts_in}
use Rattle.audit_check.specs.Views.{row_key_view}
use Rattle.audit_check.proofs.TableSteps.{start_held, other_held, not_start}
use Rattle.audit_check.proofs.table.put_start.Goals as goal

pub returns-in-Start : goal.returns-in-Start
returns-in-Start c =
    let fits : FitsSigned w64 c.in-Start.value = search rules in
    let entries = c.put.new.table.values.entries in
    let x = row_key_view c.in-Start.row_key in
    on_ok_weaker c.put.result
    (λ puts past held. rw c.in-Start.is (start_held entries x c.in-Start.value past
    (subst (λ (z : ℤ). HoldsTable entries (put_at x (Some z) (starts_in past))) (to_z-of_z w64 c.in-Start.value fits) (puts (starts_in past) held))))
    c.put.ensures

pub returns-in_default : goal.returns-in_default
returns-in_default c = λ past held. other_held _ _ past (not_start c.args.line.now c.in_default.not-Start) held
