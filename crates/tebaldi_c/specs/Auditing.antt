-- The fault of a printed run, as C has it.
use Rattle.std.specs.Prelude.{◌≡◌, ℕ, Option, Some, None}
use Rattle.audit_check.specs.declared.error.AuditWhy.{AuditWhy}
use Rattle.audit_check.specs.declared.error.AuditWhy.TheVariants as why

abbrev pub why_number : AuditWhy → ℕ
why_number why.Form = 1
why_number why.Txn = 2
why_number why.Order = 3
why_number why.After = 4
why_number why.Read = 5
why_number why.Row = 6

-- there is a fault, at this line, for this reason
abbrev pub IsFault : Option (ℕ × AuditWhy) → ℕ → ℕ → Type 0
IsFault None line n = ⊥
IsFault (Some w) line n = (line ≡ w.0) × (n ≡ why_number w.1)
