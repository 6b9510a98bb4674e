-- What the parts of an audit answer.
use Rattle.std.specs.Prelude.{◌≡◌, ℕ, Bool, List, Option, Some, None, Result, Ok, Err}
use Rattle.audit_check.specs.Items.{Item}
use Rattle.audit_check.specs.Audit.{first_line}
use Rattle.audit_check.specs.declared.error.AuditWhy.{AuditWhy}
use Rattle.audit_check.specs.declared.error.AuditError.{AuditError}
use Rattle.audit_check.specs.declared.error.AuditError.TheVariants as errors

-- the answer is the first fault, unless memory ran out
abbrev pub Answers : Result (Unit {0}) AuditError → Option (ℕ × AuditWhy) → Type 0
Answers (Ok u) fault = fault ≡ None
Answers (Err (errors.No n w)) fault = fault ≡ Some (n, w)
Answers (Err errors.OutOfMemory) fault = Unit {0}

-- an error names the first line that the test names
abbrev pub Finds : {T : Type 0} → AuditWhy → (List Item → Item → Bool) → List Item → Result T AuditError → Type 0
Finds w wrong H (Ok x) = first_line wrong H ≡ None
Finds w wrong H (Err (errors.No n v)) = (first_line wrong H ≡ Some n) × (v ≡ w)
Finds w wrong H (Err errors.OutOfMemory) = Unit {0}
