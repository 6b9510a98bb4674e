use Rattle.std.proofs.Common.{take}
use Rattle.audit_check.specs.Views.{views, line_view}
use Rattle.audit_check.proofs.AfterRules.{commit_marked, no_commits}
use Rattle.audit_check.proofs.FirstLines.{views_next}
use Rattle.audit_check.proofs.commits.committed.Goals as goal

pub loop-line-init : goal.loop-line-init
loop-line-init c = no_commits _ c.new-done.ensures.items

pub loop-line-preserved : goal.loop-line-preserved
loop-line-preserved c =
    rw (views_next c.args.lines.now c.loop-line.line-index c.line-item.result c.loop-line-test.true c.line-item.is)
    (commit_marked c.loop-line.done.items c.mark_commit.new.done.items (views (take c.loop-line.line-index c.args.lines.now)) (line_view c.line-item.result) c.in_ok-mark_commit.ensures
    c.loop-line.invariant)
