-- Errors of a run.
use Rattle.std.proofs.Common.{◌≡◌, Result, Ok, Err, OnOk, inl, inr, refl, sym, subst}
use Rattle.std.specs.Prelude.{◌⊎◌, IfErr, IsErrOf, IsOk, IsErr}
use Rattle.commit_journal.specs.declared.error.CreateError.{CreateError}
use Rattle.commit_journal.specs.declared.error.DurableError.{DurableError}
use Rattle.commit_journal.specs.declared.error.DurableError.TheVariants as errors
use Rattle.record_journal.proofs.Counting.{never_fails}
use Rattle.crash_runner.specs.declared.error.RunError.{RunError}

pub as_error : {T : Type 0} (e x : DurableError) → e ≡ x → IsErrOf {T = T} (Err e) x
as_error e x is = cc is

pub as_run_error : {T : Type 0} (h x : RunError) → h ≡ x → IsErrOf {T = T} (Err h) x
as_run_error h x is = cc is

pub of_run_error : {T : Type 0} (h x : RunError) → IsErrOf {T = T} (Err h) x → h ≡ x
of_run_error h x is = cc is

pub on_ok : {T E P Q : Type 0} (r : Result T E) → (P → Q) → OnOk r P → OnOk r Q
on_ok (Ok v) f p = f p
on_ok (Err e) f p = tt

pub as_create_error : {T D : Type 0} (e x : CreateError D) → e ≡ x → IsErrOf {T = T} (Err e) x
as_create_error e x is = cc is

pub not_ok_and_err : {T E : Type 0} (r : Result T E) (v : T) → r ≡ Ok v → IsErr r → ⊥
not_ok_and_err {T = T} {E = E} r v is f = never_fails r (subst (λ (q : Result T E). IsOk q) (sym is) refl) f

pub not_err_and_ok : {T E : Type 0} (r : Result T E) (e : E) → r ≡ Err e → IsOk r → ⊥
not_err_and_ok {T = T} {E = E} r e is f = never_fails r f (subst (λ (q : Result T E). IsErr q) (sym is) refl)

-- a property of an error holds for the error that is passed on
pub passed_on : {T : Type 0} (r : Result T RunError) (h k : RunError) (P : RunError → Type 0) → r ≡ Err h → h ≡ k → P k → IfErr r P
passed_on {T = T} r h k P is same p = subst (λ (q : Result T RunError). IfErr q P) (sym is) (subst P (sym same) p)

pub fault_or_not : (e : DurableError) → (e ≡ errors.DiskFault) ⊎ (e ≡ errors.DiskFault → ⊥)
fault_or_not errors.Stopped = inr (λ p. absurd (cc))
fault_or_not errors.Full = inr (λ p. absurd (cc))
fault_or_not errors.DiskFault = inl refl
fault_or_not errors.OutOfMemory = inr (λ p. absurd (cc))
