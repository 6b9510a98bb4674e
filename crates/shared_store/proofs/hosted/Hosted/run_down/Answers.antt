use Rattle.std.proofs.Common.{false, refl, sym, subst, ◌∙◌}
use Rattle.shared_store.specs.Ending.{IsKeptAfter}
use Rattle.shared_store.specs.Holding.{IsKept}
use Rattle.shared_store.specs.Stages.{first_stage}
use Rattle.shared_store.proofs.Adding.{no_calls, no_calls_on}
use Rattle.shared_store.proofs.Courses.{stop_behind}
use Rattle.shared_store.proofs.Keeping.{kept_failed, kept_still}
use Rattle.shared_store.proofs.hosted.Hosted.run_down.Goals as goal

pub returns-then-failed-clause-more : goal.returns-then-failed-clause-more
returns-then-failed-clause-more g c = no_calls c.args.self.entries.items

pub returns-then-failed-clause-kept : goal.returns-then-failed-clause-kept
returns-then-failed-clause-kept g c = kept_failed (g.S.EpochServer.keeps c.args.log) (first_stage (g.S.EpochServer.standing c.args.self.first.value)) c.args.total c.args.self.entries.items
    (g.S.EpochServer.failed c.args.log) (g.S.EpochServer.failed c.args.log) refl c.requires.kept

pub invariant_of-running : goal.invariant_of-running
invariant_of-running g c =
    let old = c.args.self in
    let mid = c.end_all-ended.new.self in
    let more = c.end_all-ended.ensures.more in
    let keep = g.S.EpochServer.keeps c.args.log in
    let failed = g.S.EpochServer.failed c.args.log in
    let running = sym c.has_failed-failed.ensures ∙ c.if-failed.false in
    let kept = kept_still keep (first_stage (g.S.EpochServer.standing old.first.value)) failed false c.args.total old.entries.items mid.entries.items c.end_all-ended.ensures.taken
    (λ _. running) (λ _. stop_behind old.entries.items more.more mid.entries.items more.is more.runs) c.requires.kept in
    record {
      running = running;
      kept = subst (λ f. ∥ IsKept keep (first_stage (g.S.EpochServer.standing f.value)) false c.args.total mid.entries.items ∥₁) (sym c.end_all-ended.ensures.first) kept;
    }

pub returns-clause-more : goal.returns-clause-more
returns-clause-more g c =
    let mid = c.end_all-ended.new.self.entries.items in
    no_calls_on c.args.self.entries.items mid c.write_and_end.result.hosted.entries.items c.end_all-ended.ensures.more c.write_and_end.ensures.more

pub returns-clause-kept : goal.returns-clause-kept
returns-clause-kept g c =
    let r = c.write_and_end.result in
    subst (λ f. IsKeptAfter (g.S.EpochServer.keeps r.log) (first_stage (g.S.EpochServer.standing f.value)) (g.S.EpochServer.failed r.log) c.args.total r.hosted.entries.items)
    c.end_all-ended.ensures.first c.write_and_end.ensures.kept
