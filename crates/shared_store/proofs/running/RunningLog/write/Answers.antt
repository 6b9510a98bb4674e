use Rattle.std.proofs.Common.{true, refl, sym, subst, ◌∙◌}
use Rattle.shared_store.specs.Stages.{first_stage}
use Rattle.shared_store.specs.Lives.{LeadsTo}
use Rattle.shared_store.specs.Holding.{IsKept, stage_of}
use Rattle.shared_store.proofs.Living.{all_taken}
use Rattle.shared_store.proofs.Keeping.{keeps_now, kept_err, less, runs_err, runs_kept, runs_ok}
use Rattle.shared_store.proofs.running.RunningLog.write.Goals as goal

pub invariant_of-written : goal.invariant_of-written
invariant_of-written g c =
    let total = c.args.self.total in
    let old = c.args.self.hosted in
    let mid = c.take-batch.new.self in
    let first = first_stage (g.S.EpochServer.standing old.first.value) in
    let was = stage_of old.past old.stopped (g.S.EpochServer.standing old.server) in
    let now = stage_of mid.past mid.stopped (g.S.EpochServer.standing mid.server) in
    let keep = g.S.EpochServer.keeps c.args.self.log in
    let then_keep = g.S.EpochServer.keeps c.write.new.log in
    let brings = g.S.EpochServer.brings c.take-batch.result in
    let failed = g.S.EpochServer.failed c.write.new.log in
    let t = c.take-batch.ensures in
    let leads = subst (λ f. LeadsTo (first_stage (g.S.EpochServer.standing f.value)) mid.entries.items now) t.first mid.life.leads in
    let all = all_taken first now old.entries.items mid.entries.items t.entries leads in
    record {
      running = runs_ok keep then_keep brings first total mid.commits old.entries.items mid.entries.items c.args.self.kept t.brought failed c.write.result c.in-Ok.field-0 c.in-Ok.is
          c.write.ensures.kept;
      runs = t.same.3 ∙ runs_kept keep first was total old.entries.items refl old.life.leads c.args.self.kept;
      waits = t.waits;
      kept = keeps_now keep then_keep brings first total mid.commits old.entries.items mid.entries.items c.args.self.kept t.brought failed c.write.result c.in-Ok.field-0 c.in-Ok.is
          c.write.ensures.kept now all.1;
      taken = all.0;
    }

pub invariant_of-failed : goal.invariant_of-failed
invariant_of-failed g c =
    let total = c.args.self.total in
    let old = c.args.self.hosted in
    let mid = c.take-batch.new.self in
    let first = first_stage (g.S.EpochServer.standing old.first.value) in
    let now = stage_of mid.past mid.stopped (g.S.EpochServer.standing mid.server) in
    let keep = g.S.EpochServer.keeps c.args.self.log in
    let then_keep = g.S.EpochServer.keeps c.write.new.log in
    let brings = g.S.EpochServer.brings c.take-batch.result in
    let failed = g.S.EpochServer.failed c.write.new.log in
    let t = c.take-batch.ensures in
    record {
      failed = runs_err keep then_keep brings first total mid.commits old.entries.items mid.entries.items c.args.self.kept t.brought failed c.write.result c.in-Err.error c.in-Err.is
          c.write.ensures.not_kept;
      kept = subst (λ f. ∥ IsKept then_keep (first_stage (g.S.EpochServer.standing f.value)) true total mid.entries.items ∥₁) (sym t.first)
          (kept_err keep then_keep brings first total mid.commits old.entries.items mid.entries.items c.args.self.kept t.brought failed c.write.result c.in-Err.error c.in-Err.is
          c.write.ensures.not_kept);
      taken = (all_taken (first_stage (g.S.EpochServer.standing mid.first.value)) now old.entries.items mid.entries.items t.entries mid.life.leads).0;
    }

pub returns-in-Ok-clause-written : goal.returns-in-Ok-clause-written
returns-in-Ok-clause-written g c =
    let old = c.args.self.hosted in
    let mid = c.take-batch.new.self in
    let t = c.take-batch.ensures in (
      record { entries = t.entries; first = t.first; standing = t.same.0 },
      less (g.S.EpochServer.keeps c.args.self.log) (g.S.EpochServer.keeps c.write.new.log) (g.S.EpochServer.brings c.take-batch.result) (first_stage (g.S.EpochServer.standing old.first.value))
          c.args.self.total mid.commits old.entries.items mid.entries.items c.args.self.kept t.brought (g.S.EpochServer.failed c.write.new.log) c.write.result,
    )
