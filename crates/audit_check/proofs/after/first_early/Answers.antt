use Rattle.std.proofs.Common.{◌≡◌, ◌∙◌, sym, refl, true, false, take}
use Rattle.audit_check.specs.Faults.{wrong_after}
use Rattle.audit_check.specs.Keeps.{MarksCommits, KeepsSources}
use Rattle.audit_check.specs.Views.{views, line_view}
use Rattle.audit_check.proofs.AfterRules.{commit_marked, no_commits, sources_more, no_sources}
use Rattle.audit_check.proofs.FirstLines.{views_next, right_line, wrong_line, no_lines}
use Rattle.audit_check.proofs.after.first_early.Goals as goal

pub loop-i-init : goal.loop-i-init
loop-i-init c = record { done = no_commits _ c.requires.done; sources = no_sources _ c.requires.sources; none = no_lines wrong_after }

pub loop-i-preserved : goal.loop-i-preserved
loop-i-preserved c =
    let lines = c.args.lines.now in
    let i = c.loop-i.i in
    let line = c.index-lines-i.result in
    let past = views (take i lines) in
    let done : MarksCommits c.deref.result.now past = rw c.deref.ensures.value c.loop-i.invariant.done in
    let sources : KeepsSources c.deref-in-loop-i.result.now past = rw c.deref-in-loop-i.ensures.value c.loop-i.invariant.sources in
    let right : wrong_after past (line_view line) ≡ false = sym (c.is_early.ensures past done sources) ∙ c.if-is_early.false in
    let next = views_next lines i line c.loop-i-test.true c.index-lines-i.is in
    record {
      done = rw next (commit_marked c.loop-i.done.items c.mark_commit.new.done.items past (line_view line) c.in_ok-mark_commit.ensures c.loop-i.invariant.done);
      sources = rw next (sources_more c.loop-i.sources.items c.keep_source.new.sources.items past (line_view line) c.in_ok-keep_source.ensures c.loop-i.invariant.sources);
      none = right_line wrong_after lines i line c.loop-i-test.true c.index-lines-i.is c.loop-i.invariant.none right;
    }

pub returns-then-is_early : goal.returns-then-is_early
returns-then-is_early c =
    let lines = c.args.lines.now in
    let past = views (take c.loop-i.i lines) in
    let done : MarksCommits c.deref.result.now past = rw c.deref.ensures.value c.loop-i.invariant.done in
    let sources : KeepsSources c.deref-in-loop-i.result.now past = rw c.deref-in-loop-i.ensures.value c.loop-i.invariant.sources in
    let bad : wrong_after past (line_view c.index-lines-i.result) ≡ true = sym (c.is_early.ensures past done sources) ∙ c.if-is_early.true in
    rw c.no.ensures (wrong_line wrong_after lines c.loop-i.i c.index-lines-i.result c.loop-i-test.true c.index-lines-i.is c.loop-i.invariant.none bad, refl)
