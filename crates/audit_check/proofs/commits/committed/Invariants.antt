use Rattle.std.proofs.Common.{take}
use Rattle.audit_check.specs.Keeps.{MarksCommits}
use Rattle.audit_check.specs.Views.{views}
use Rattle.audit_check.proofs.commits.committed.Given as goal

abbrev pub invariant-loop-line : goal.invariant-loop-line
invariant-loop-line l = MarksCommits l.done.items (views (take l.line-index l.lines))
