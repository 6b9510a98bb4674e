use Rattle.std.proofs.Common.{All, Global, Vec, sym, subst, ℕ}
use Rattle.std.proofs.lemmas.List.Elements.{All-push}
use Rattle.audit_check.specs.Audit.{IsAudited}
use Rattle.embedded_shared.proofs.recorded.RecordedEpochServer.next_epoch.Goals as goal

abbrev Audited : Vec ℕ Global → Type 0
Audited run = IsAudited run.items

pub invariant_of-result-in-Ok-begun : goal.invariant_of-result-in-Ok-begun
invariant_of-result-in-Ok-begun g c =
    let before = subst (All Audited) (sym c.next_run.ensures.same) c.args.self.audited in
    record { audited = subst (All Audited) (sym c.push_reserved.ensures.items) (All-push Audited _ c.in-Ok.run' before c.in-Ok.ensures.audited) }
