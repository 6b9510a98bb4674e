use Rattle.std.proofs.Common.{take}
use Rattle.audit_check.specs.Keeps.{HoldsTable}
use Rattle.audit_check.specs.Tables.{starts_in}
use Rattle.audit_check.specs.Views.{views}
use Rattle.audit_check.proofs.table.starting_table.Given as goal

abbrev pub invariant-loop-line : goal.invariant-loop-line
invariant-loop-line l = HoldsTable l.table.values.entries (starts_in (views (take l.line-index l.lines)))
