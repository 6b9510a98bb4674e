use Rattle.std.proofs.Common.{rules, ◌≡◌, ◌-◌, ◌<◌, ◌∷◌, [], false, length, sym, subst, ap, ◌∙◌, arith, ℕ}
use Rattle.std.proofs.lemmas.List.{append-nil}
use Rattle.crash_disk.specs.Calls.{Tally}
use Rattle.crash_disk.specs.Disk.{LeavesOnly}
use Rattle.record_journal.proofs.Moments.{started, weaker, since_before, still_only}
use Rattle.epoch_journal.specs.Halves.{IsEither, IsResting, IsSettled}
use Rattle.epoch_journal.specs.declared.current.Half.{Half}
use Rattle.epoch_journal.specs.Layout.{layout, half_size}
use Rattle.epoch_journal.specs.State.{JournalState}
use Rattle.epoch_journal.specs.Telling.{TellsOn, checkpoint_of}
use Rattle.epoch_journal.specs.Kept.{Keeps}
use Rattle.epoch_journal.specs.Refusals.{IsReliable}
use Rattle.epoch_journal.proofs.Refusing.{still_reliable}
use Rattle.epoch_journal.proofs.Telling.{begun, either_tells, runs, same_piece, settled_of}
use Rattle.epoch_journal.proofs.journal.EpochJournal.checkpoint.Goals as goal

pub returns-in-Ok-switch_halves-clause-any_moment : goal.returns-in-Ok-switch_halves-clause-any_moment
returns-in-Ok-switch_halves-clause-any_moment g c start all least kept now =
    let d = g.D.Disk in
    let was = c.self.inside in
    let keeps = subst (λ (s : JournalState _). Keeps d.seen d.may_leave start all least s) (sym c.self.view_is) kept in
    let on : was.stopped ≡ false = ap (λ (s : JournalState _). s.stopped) c.self.view_is ∙ c.requires.running in
    let run = keeps.running on in
    let rs = checkpoint_of run.rows ∷ run.asked in
    let r = checkpoint_of c.args.rows.now in
    let l = layout was.capacity was.label.items in
    let piece = same_piece was.capacity c.deref.result.now was.label.items r c.in-Ok.piece.items c.deref-2.result.now c.deref.ensures.value c.deref-2.ensures.value c.in-Ok.ensures.piece in
    let settled = subst (IsSettled l was.place.half rs) (sym c.adopt.ensures.seen) (settled_of d.seen d.may_leave start all _ c.self.invariant.within run) in
    let durable = still_only _ _ _ _ c.adopt.ensures.seen c.adopt.ensures.crash run.durable in
    subst (λ (s : JournalState _). LeavesOnly d.moment d.left_since s.disk c.switch_halves.new.disk (TellsOn s.layout start all least)) c.self.view_is
    (weaker d.moment d.left_since was.disk c.switch_halves.new.disk (IsEither l was.place.half rs r) (TellsOn l start all least)
    (λ image either. either_tells l start run.past run.asked all run.rows c.args.rows.now least was.place.half image run.checkpoint run.split now keeps.few either)
    (since_before d.moment d.left_since was.disk _ _ _ c.adopt.ensures.clock c.adopt.ensures.time (c.switch_halves.ensures.any_moment was.label.items rs r piece settled durable)))

pub returns-clause-any_moment : goal.returns-clause-any_moment
returns-clause-any_moment g c start all least kept now =
    let d = g.D.Disk in
    let was = c.self.inside in
    let keeps = subst (λ (s : JournalState _). Keeps d.seen d.may_leave start all least s) (sym c.self.view_is) kept in
    let on : was.stopped ≡ false = ap (λ (s : JournalState _). s.stopped) c.self.view_is ∙ c.requires.running in
    let run = keeps.running on in
    let rs = checkpoint_of run.rows ∷ run.asked in
    let r = checkpoint_of c.args.rows.now in
    let l = layout was.capacity was.label.items in
    let piece = same_piece was.capacity c.deref.result.now was.label.items r c.in-Ok.piece.items c.deref-2.result.now c.deref.ensures.value c.deref-2.ensures.value c.in-Ok.ensures.piece in
    let settled = subst (IsSettled l was.place.half rs) (sym c.adopt.ensures.seen) (settled_of d.seen d.may_leave start all _ c.self.invariant.within run) in
    let durable = still_only _ _ _ _ c.adopt.ensures.seen c.adopt.ensures.crash run.durable in
    subst (λ (s : JournalState _). LeavesOnly d.moment d.left_since s.disk c.switch_halves.new.disk (TellsOn s.layout start all least)) c.self.view_is
    (weaker d.moment d.left_since was.disk c.switch_halves.new.disk (IsEither l was.place.half rs r) (TellsOn l start all least)
    (λ image either. either_tells l start run.past run.asked all run.rows c.args.rows.now least was.place.half image run.checkpoint run.split now keeps.few either)
    (since_before d.moment d.left_since was.disk _ _ _ c.adopt.ensures.clock c.adopt.ensures.time (c.switch_halves.ensures.any_moment was.label.items rs r piece settled durable)))

pub returns-clause-kept : goal.returns-clause-kept
returns-clause-kept g c start all least kept now =
    let d = g.D.Disk in
    let was = c.self.inside in
    let keeps = subst (λ (s : JournalState _). Keeps d.seen d.may_leave start all least s) (sym c.self.view_is) kept in
    let on : was.stopped ≡ false = ap (λ (s : JournalState _). s.stopped) c.self.view_is ∙ c.requires.running in
    let run = keeps.running on in
    let rs = checkpoint_of run.rows ∷ run.asked in
    let r = checkpoint_of c.args.rows.now in
    let l = layout was.capacity was.label.items in
    let piece = same_piece was.capacity c.deref.result.now was.label.items r c.in-Ok.piece.items c.deref-2.result.now c.deref.ensures.value c.deref-2.ensures.value c.in-Ok.ensures.piece in
    let settled = subst (IsSettled l was.place.half rs) (sym c.adopt.ensures.seen) (settled_of d.seen d.may_leave start all _ c.self.invariant.within run) in
    let durable = still_only _ _ _ _ c.adopt.ensures.seen c.adopt.ensures.crash run.durable in
    let only = (weaker d.moment d.left_since was.disk c.switch_halves.new.disk (IsEither l was.place.half rs r) (TellsOn l start all least)
    (λ image either. either_tells l start run.past run.asked all run.rows c.args.rows.now least was.place.half image run.checkpoint run.split now keeps.few either)
    (since_before d.moment d.left_since was.disk _ _ _ c.adopt.ensures.clock c.adopt.ensures.time (c.switch_halves.ensures.any_moment was.label.items rs r piece settled durable))) in
    record {
      few = keeps.few;
      each = λ image left. only.each image (g.met.D.Disk.counts_now c.switch_halves.new.disk (d.moment was.disk) image only.later left);
      running = λ is. absurd (cc is);
      all_safe = λ is. absurd (cc is);
    }

pub returns-in-Ok-switch_halves-clause-begins : goal.returns-in-Ok-switch_halves-clause-begins
returns-in-Ok-switch_halves-clause-begins g c start all least kept =
    let d = g.D.Disk in
    let was = c.self.inside in
    let keeps = subst (λ (s : JournalState _). Keeps d.seen d.may_leave start all least s) (sym c.self.view_is) kept in
    let on : was.stopped ≡ false = ap (λ (s : JournalState _). s.stopped) c.self.view_is ∙ c.requires.running in
    let run = keeps.running on in
    let rs = checkpoint_of run.rows ∷ run.asked in
    let r = checkpoint_of c.args.rows.now in
    let l = layout was.capacity was.label.items in
    let piece = same_piece was.capacity c.deref.result.now was.label.items r c.in-Ok.piece.items c.deref-2.result.now c.deref.ensures.value c.deref-2.ensures.value c.in-Ok.ensures.piece in
    let settled = subst (IsSettled l was.place.half rs) (sym c.adopt.ensures.seen) (settled_of d.seen d.may_leave start all _ c.self.invariant.within run) in
    let durable = still_only _ _ _ _ c.adopt.ensures.seen c.adopt.ensures.crash run.durable in
    let after = c.in-Ok-switch_halves.ensures.switched was.label.items rs r piece settled in
    let same : length c.deref-2.result.now - 1 ≡ c.len-in-Ok-switch_halves.result - 1 = search rules in
    let below : c.len-in-Ok-switch_halves.result - 1 < half_size was.capacity = omega (
      arith,
      c.in-Ok.ensures.fits,
      c.in-Ok.ensures.length,
      ap length c.deref-2.ensures.value,
      ap length c.deref.ensures.value,
      same,
    ) in
    let resting = subst (λ (x : ℕ × Half). IsResting l x.1 (r ∷ []) x.0 (d.seen c.switch_halves.new.disk)) (λ i. (same i, sym c.other.ensures i)) after.0 in
    begun d.seen d.may_leave c.args.rows.now _ below resting after.1

pub returns-in-Ok-switch_halves-clause-kept : goal.returns-in-Ok-switch_halves-clause-kept
returns-in-Ok-switch_halves-clause-kept g c start all least kept now =
    let d = g.D.Disk in
    let was = c.self.inside in
    let keeps = subst (λ (s : JournalState _). Keeps d.seen d.may_leave start all least s) (sym c.self.view_is) kept in
    let on : was.stopped ≡ false = ap (λ (s : JournalState _). s.stopped) c.self.view_is ∙ c.requires.running in
    let run = keeps.running on in
    let rs = checkpoint_of run.rows ∷ run.asked in
    let r = checkpoint_of c.args.rows.now in
    let l = layout was.capacity was.label.items in
    let piece = same_piece was.capacity c.deref.result.now was.label.items r c.in-Ok.piece.items c.deref-2.result.now c.deref.ensures.value c.deref-2.ensures.value c.in-Ok.ensures.piece in
    let settled = subst (IsSettled l was.place.half rs) (sym c.adopt.ensures.seen) (settled_of d.seen d.may_leave start all _ c.self.invariant.within run) in
    let durable = still_only _ _ _ _ c.adopt.ensures.seen c.adopt.ensures.crash run.durable in
    let after = c.in-Ok-switch_halves.ensures.switched was.label.items rs r piece settled in
    let same : length c.deref-2.result.now - 1 ≡ c.len-in-Ok-switch_halves.result - 1 = search rules in
    let below : c.len-in-Ok-switch_halves.result - 1 < half_size was.capacity = omega (
      arith,
      c.in-Ok.ensures.fits,
      c.in-Ok.ensures.length,
      ap length c.deref-2.ensures.value,
      ap length c.deref.ensures.value,
      same,
    ) in
    let resting = subst (λ (x : ℕ × Half). IsResting l x.1 (r ∷ []) x.0 (d.seen c.switch_halves.new.disk)) (λ i. (same i, sym c.other.ensures i)) after.0 in
    runs d.seen d.may_leave start all least _ below (keeps.all_safe on)
    (record {
      past = all;
      asked = [];
      rows = c.args.rows.now;
      split = sym (append-nil all);
      checkpoint = now;
      resting = resting;
      durable = after.1;
    })

pub returns-in-Err-clause-any_moment : goal.returns-in-Err-clause-any_moment
returns-in-Err-clause-any_moment g c start all least kept now =
    let d = g.D.Disk in
    let j = c.args.self.now in
    started d.moment d.left_since j.disk (TellsOn j.layout start all least) (λ image left. kept.each image (g.met.D.Disk.only_now j.disk image left))

pub returns-in_default-clause-any_moment : goal.returns-in_default-clause-any_moment
returns-in_default-clause-any_moment g c start all least kept now =
    let d = g.D.Disk in
    let j = c.args.self.now in
    started d.moment d.left_since j.disk (TellsOn j.layout start all least) (λ image left. kept.each image (g.met.D.Disk.only_now j.disk image left))

pub returns-clause-sure : goal.returns-clause-sure
returns-clause-sure g c reliable is =
    let d = g.D.Disk in
    let was = c.self.inside in
    let before = subst (λ (s : JournalState _). IsReliable d.tells_failures d.tally d.refusals s.disk) (sym c.self.view_is) reliable in
    let still = still_reliable d.tells_failures d.tally d.refusals was.disk c.adopt.new.self (ap (λ (t : Tally). t.promise) c.adopt.ensures.calls) c.adopt.ensures.refusals before in
    let same : d.refusals c.switch_halves.new.disk ≡ d.refusals c.adopt.new.self = search rules in
    omega (arith, same, c.in-Err-switch_halves.ensures.refusals.refused still)
