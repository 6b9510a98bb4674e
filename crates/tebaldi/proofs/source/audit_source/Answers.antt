use Rattle.std.proofs.Common.{◌≡◌, Some, ℕ, List, IfOk, subst}
use Rattle.command_output.specs.Shown.{Shown}
use Rattle.audit_runner.specs.Verdicts.{audited}
use Rattle.command_words.specs.declared.command.Command.TheVariants.{Audit}
use Rattle.tebaldi.proofs.Rightness.{bytes_of, bytes_refused}
use Rattle.tebaldi.proofs.source.audit_source.Goals as goal

pub returns-in-Ok-clause-right : goal.returns-in-Ok-clause-right
returns-in-Ok-clause-right g c = λ nf nm.
    bytes_of _ _ c.put_out.result _ _ (Some Audit) (λ (text : List ℕ) (d : Shown). d ≡ audited text) (λ bytes d s. (s, c.put_out.ensures.alone)) c.in-Ok.text c.in-Ok.ensures.bytes c.run_audit.result
    (subst (λ (text : List ℕ). IfOk c.run_audit.result (λ (o : Shown). o ≡ audited text)) c.deref.ensures.value c.run_audit.ensures.shown) c.run_audit.ensures.history c.put_out.ensures.written nm

pub returns-in-Err-clause-right : goal.returns-in-Err-clause-right
returns-in-Err-clause-right g c = λ nf nm.
    bytes_refused _ _ c.refuse.result _ _ (Some Audit) (λ (text : List ℕ) (d : Shown). d ≡ audited text) (λ bytes d s. (s, c.refuse.ensures.alone)) c.in-Err.error c.in-Err.ensures.bytes c.from.result
    c.from.ensures (c.refuse.ensures.written nf nm) c.refuse.ensures.read_fault c.refuse.ensures.memory nf nm
