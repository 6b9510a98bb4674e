-- What an audit shows of a printed run.
use Rattle.std.specs.Prelude.{ℕ, List, ◌++◌, codes, decimal, Option, Some, None}
use Rattle.audit_check.specs.Audit.{audit_of}
use Rattle.audit_check.specs.declared.error.AuditWhy.{AuditWhy}
use Rattle.audit_check.specs.declared.error.AuditWhy.TheVariants as why
use Rattle.command_output.specs.Shown.{Shown, line_alone}

abbrev pub why_text : AuditWhy → List ℕ
why_text why.Form = codes "form"
why_text why.Txn = codes "txn"
why_text why.Order = codes "order"
why_text why.After = codes "after"
why_text why.Read = codes "read"
why_text why.Row = codes "row"

-- that no line is wrong, or which line is, and why
abbrev pub verdict : Option (ℕ × AuditWhy) → Shown
verdict None = line_alone 0 (codes "audit yes")
verdict (Some w) = line_alone 11 (codes "audit no line " ++ decimal w.0 ++ codes " " ++ why_text w.1)

abbrev pub audited : List ℕ → Shown
audited text = verdict (audit_of text)
