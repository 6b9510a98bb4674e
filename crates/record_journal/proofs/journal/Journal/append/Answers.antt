use Rattle.std.proofs.Common.{arith, sym, subst, length, ◌+◌, length-append, ◌∷◌, [], ap, ◌∙◌}
use Rattle.crash_disk.specs.Sizes.{default_capacity}
use Rattle.crash_disk.proofs.Spares.{covers_more}
use Rattle.record_journal.specs.Journal.{IsAtRest, IsBeforeOrAfter}
use Rattle.record_journal.proofs.Counting.{calls_since}
use Rattle.record_journal.proofs.Moments.{weaker, since_before, still_only}
use Rattle.record_journal.proofs.Keeping.{runs, one_more, stands}
use Rattle.record_journal.specs.Format.{recovered}
use Rattle.record_journal.proofs.journal.Journal.append.Goals as goal

pub returns-in-Ok-clause-kept : goal.returns-in-Ok-clause-kept
returns-in-Ok-clause-kept g c asked r added keeps =
    let d = g.D.Disk in
    let before = keeps.running c.requires.running in
    let at_rest = subst (IsAtRest default_capacity asked c.args.self.now.progress.end) (sym c.adopt.ensures.seen) before.at_rest in
    let durable = still_only _ _ _ _ c.adopt.ensures.seen c.adopt.ensures.crash before.durable in
    let after = c.in-Ok.ensures.added default_capacity asked r (omega (arith, c.requires.room)) added at_rest durable in
    runs d.seen d.may_leave _ _ record {
      at_rest = after.0;
      durable = after.1;
      all = omega (arith, before.all, length-append asked (r ∷ []));
    }

pub returns-in-Ok-clause-any_moment : goal.returns-in-Ok-clause-any_moment
returns-in-Ok-clause-any_moment g c asked r added keeps =
    let d = g.D.Disk in
    let before = keeps.running c.requires.running in
    let at_rest = subst (IsAtRest default_capacity asked c.args.self.now.progress.end) (sym c.adopt.ensures.seen) before.at_rest in
    let durable = still_only _ _ _ _ c.adopt.ensures.seen c.adopt.ensures.crash before.durable in
    weaker d.moment d.left_since _ _ (IsBeforeOrAfter default_capacity asked r) _ (λ image. one_more default_capacity asked r c.args.self.now.progress.acknowledged image keeps.few)
    (since_before d.moment d.left_since _ _ _ _ c.adopt.ensures.clock c.adopt.ensures.time
    (c.write_record-added.ensures.any_moment default_capacity asked r (omega (arith, c.requires.room)) added at_rest durable))

pub returns-in-Err-clause-kept : goal.returns-in-Err-clause-kept
returns-in-Err-clause-kept g c asked r added keeps =
    let d = g.D.Disk in
    let before = keeps.running c.requires.running in
    let at_rest = subst (IsAtRest default_capacity asked c.args.self.now.progress.end) (sym c.adopt.ensures.seen) before.at_rest in
    let durable = still_only _ _ _ _ c.adopt.ensures.seen c.adopt.ensures.crash before.durable in
    let only = since_before d.moment d.left_since c.args.self.now.disk _ _ _ c.adopt.ensures.clock c.adopt.ensures.time
    (c.write_record-added.ensures.any_moment default_capacity asked r (omega (arith, c.requires.room)) added at_rest durable) in
    record {
      few = omega (arith, keeps.few, length-append asked (r ∷ []));
      each = λ image left. one_more default_capacity asked r c.args.self.now.progress.acknowledged image keeps.few
          (only.each image (g.met.D.Disk.counts_now c.write_record-added.new.disk (d.moment c.args.self.now.disk) image only.later left));
      running = λ is. absurd (cc is);
    }

pub returns-in-Err-clause-any_moment : goal.returns-in-Err-clause-any_moment
returns-in-Err-clause-any_moment g c asked r added keeps =
    let d = g.D.Disk in
    let before = keeps.running c.requires.running in
    let at_rest = subst (IsAtRest default_capacity asked c.args.self.now.progress.end) (sym c.adopt.ensures.seen) before.at_rest in
    let durable = still_only _ _ _ _ c.adopt.ensures.seen c.adopt.ensures.crash before.durable in
    weaker d.moment d.left_since _ _ (IsBeforeOrAfter default_capacity asked r) _ (λ image. one_more default_capacity asked r c.args.self.now.progress.acknowledged image keeps.few)
    (since_before d.moment d.left_since _ _ _ _ c.adopt.ensures.clock c.adopt.ensures.time
    (c.write_record-added.ensures.any_moment default_capacity asked r (omega (arith, c.requires.room)) added at_rest durable))

pub returns-in-Err-clause-not_added : goal.returns-in-Err-clause-not_added
returns-in-Err-clause-not_added g c asked r added keeps =
    let d = g.D.Disk in
    let old = c.args.self.now in
    let before = keeps.running c.requires.running in
    let at_rest = subst (IsAtRest default_capacity asked c.args.self.now.progress.end) (sym c.adopt.ensures.seen) before.at_rest in
    let durable = still_only _ _ _ _ c.adopt.ensures.seen c.adopt.ensures.crash before.durable in
    c.write_record-added.ensures.not_added default_capacity asked r (omega (arith, c.requires.room)) added at_rest
    (ap (recovered default_capacity) (c.adopt.ensures.safe ∙ before.durable (d.safe old.disk) (g.met.D.Disk.safe_is_left old.disk)) ∙ stands default_capacity asked old.progress.end
    (d.seen old.disk) before.at_rest)

pub returns-in-Ok-clause-memory : goal.returns-in-Ok-clause-memory
returns-in-Ok-clause-memory g c covers = c.write_record-added.ensures.memory.enough (covers_more _ _ _ _ _ c.adopt.ensures.spare covers) ∙ c.adopt.ensures.refusals

pub returns-in-Err-clause-memory : goal.returns-in-Err-clause-memory
returns-in-Err-clause-memory g c covers = c.write_record-added.ensures.memory.enough (covers_more _ _ _ _ _ c.adopt.ensures.spare covers) ∙ c.adopt.ensures.refusals

pub returns-in-Ok-clause-calls : goal.returns-in-Ok-clause-calls
returns-in-Ok-clause-calls g c = calls_since 4 (length c.args.body.now + 1) _ _ _ _ c.adopt.ensures.calls c.write_record-added.ensures.calls

pub returns-in-Err-clause-calls : goal.returns-in-Err-clause-calls
returns-in-Err-clause-calls g c = calls_since 4 (length c.args.body.now + 1) _ _ _ _ c.adopt.ensures.calls c.write_record-added.ensures.calls
