use Rattle.std.proofs.Common.{◌≡◌, ◌+◌, ◌∷◌, ◌++◌, false, arith, ap, sym, subst, ◌∙◌, append_assoc, length, length-append, List}
use Rattle.crash_disk.specs.Calls.{Tally}
use Rattle.crash_disk.specs.Disk.{LeavesOnly}
use Rattle.crash_disk.proofs.Spares.{covers_more}
use Rattle.record_journal.specs.Format.{Record}
use Rattle.record_journal.proofs.Counting.{calls_since}
use Rattle.record_journal.proofs.Moments.{weaker, since_before, still_only}
use Rattle.epoch_journal.specs.Halves.{IsOneOf, IsResting}
use Rattle.epoch_journal.specs.Layout.{layout, half_size}
use Rattle.epoch_journal.specs.State.{JournalState}
use Rattle.epoch_journal.specs.Telling.{TellsOn, checkpoint_of}
use Rattle.epoch_journal.specs.Kept.{Keeps}
use Rattle.epoch_journal.specs.Memory.{IsForRecord}
use Rattle.epoch_journal.specs.Refusals.{IsReliable}
use Rattle.epoch_journal.proofs.Refusing.{still_reliable}
use Rattle.epoch_journal.proofs.Sizes.{small_half}
use Rattle.epoch_journal.proofs.Telling.{on_ok, on_err, one_of_tells, runs}
use Rattle.epoch_journal.proofs.journal.EpochJournal.append_bodies.Goals as goal

pub returns-in-Ok-clause-kept : goal.returns-in-Ok-clause-kept
returns-in-Ok-clause-kept g c start all least more added kept =
    let d = g.D.Disk in
    let was = c.self.inside in
    let keeps = subst (λ (s : JournalState _). Keeps d.seen d.may_leave start all least s) (sym c.self.view_is) kept in
    let on : was.stopped ≡ false = ap (λ (s : JournalState _). s.stopped) c.self.view_is ∙ c.requires.running in
    let run = keeps.running on in
    let resting = subst (IsResting (layout was.capacity was.label.items) was.place.half (checkpoint_of run.rows ∷ run.asked) was.place.end) (sym c.adopt.ensures.seen) run.resting in
    let durable = still_only _ _ _ _ c.adopt.ensures.seen c.adopt.ensures.crash run.durable in
    let after = c.in-Ok.ensures.added was.label.items (checkpoint_of run.rows ∷ run.asked) more added resting durable in
    on_ok c.add_records-added.result
    (runs d.seen d.may_leave start (all ++ more) (least + length more) _
    (omega (arith, c.requires.room, ap (λ (s : JournalState _). s.end) c.self.view_is, ap (λ (s : JournalState _). half_size s.layout.capacity) c.self.view_is))
    (omega (arith, keeps.all_safe on, length-append all more))
    (record {
      past = run.past;
      asked = run.asked ++ more;
      rows = run.rows;
      split = ap (λ (l : List Record). l ++ more) run.split ∙ append_assoc run.past run.asked more;
      checkpoint = run.checkpoint;
      resting = after.0;
      durable = after.1;
    }))

pub returns-in-Ok-clause-any_moment : goal.returns-in-Ok-clause-any_moment
returns-in-Ok-clause-any_moment g c start all least more added kept =
    let d = g.D.Disk in
    let was = c.self.inside in
    let keeps = subst (λ (s : JournalState _). Keeps d.seen d.may_leave start all least s) (sym c.self.view_is) kept in
    let on : was.stopped ≡ false = ap (λ (s : JournalState _). s.stopped) c.self.view_is ∙ c.requires.running in
    let run = keeps.running on in
    let resting = subst (IsResting (layout was.capacity was.label.items) was.place.half (checkpoint_of run.rows ∷ run.asked) was.place.end) (sym c.adopt.ensures.seen) run.resting in
    let durable = still_only _ _ _ _ c.adopt.ensures.seen c.adopt.ensures.crash run.durable in
    let rs = checkpoint_of run.rows ∷ run.asked in
    let l = layout was.capacity was.label.items in
    subst (λ (s : JournalState _). LeavesOnly d.moment d.left_since s.disk c.add_records-added.new.disk (TellsOn s.layout start (all ++ more) least)) c.self.view_is
    (weaker d.moment d.left_since was.disk c.add_records-added.new.disk (IsOneOf l was.place.half rs more) (TellsOn l start (all ++ more) least)
    (λ image one. one_of_tells l start run.past run.asked all run.rows more least was.place.half image run.checkpoint run.split keeps.few one)
    (since_before d.moment d.left_since was.disk _ _ _ c.adopt.ensures.clock c.adopt.ensures.time (c.add_records-added.ensures.any_moment was.label.items rs more added resting durable)))

pub returns-in-Err-clause-any_moment : goal.returns-in-Err-clause-any_moment
returns-in-Err-clause-any_moment g c start all least more added kept =
    let d = g.D.Disk in
    let was = c.self.inside in
    let keeps = subst (λ (s : JournalState _). Keeps d.seen d.may_leave start all least s) (sym c.self.view_is) kept in
    let on : was.stopped ≡ false = ap (λ (s : JournalState _). s.stopped) c.self.view_is ∙ c.requires.running in
    let run = keeps.running on in
    let resting = subst (IsResting (layout was.capacity was.label.items) was.place.half (checkpoint_of run.rows ∷ run.asked) was.place.end) (sym c.adopt.ensures.seen) run.resting in
    let durable = still_only _ _ _ _ c.adopt.ensures.seen c.adopt.ensures.crash run.durable in
    let rs = checkpoint_of run.rows ∷ run.asked in
    let l = layout was.capacity was.label.items in
    subst (λ (s : JournalState _). LeavesOnly d.moment d.left_since s.disk c.add_records-added.new.disk (TellsOn s.layout start (all ++ more) least)) c.self.view_is
    (weaker d.moment d.left_since was.disk c.add_records-added.new.disk (IsOneOf l was.place.half rs more) (TellsOn l start (all ++ more) least)
    (λ image one. one_of_tells l start run.past run.asked all run.rows more least was.place.half image run.checkpoint run.split keeps.few one)
    (since_before d.moment d.left_since was.disk _ _ _ c.adopt.ensures.clock c.adopt.ensures.time (c.add_records-added.ensures.any_moment was.label.items rs more added resting durable)))

pub returns-in-Err-clause-not_added : goal.returns-in-Err-clause-not_added
returns-in-Err-clause-not_added g c start all least more added kept =
    let d = g.D.Disk in
    let was = c.self.inside in
    let keeps = subst (λ (s : JournalState _). Keeps d.seen d.may_leave start all least s) (sym c.self.view_is) kept in
    let on : was.stopped ≡ false = ap (λ (s : JournalState _). s.stopped) c.self.view_is ∙ c.requires.running in
    let run = keeps.running on in
    let resting = subst (IsResting (layout was.capacity was.label.items) was.place.half (checkpoint_of run.rows ∷ run.asked) was.place.end) (sym c.adopt.ensures.seen) run.resting in
    let durable = still_only _ _ _ _ c.adopt.ensures.seen c.adopt.ensures.crash run.durable in
    let rs = checkpoint_of run.rows ∷ run.asked in
    let l = layout was.capacity was.label.items in
    let only =
    weaker d.moment d.left_since was.disk c.add_records-added.new.disk (IsOneOf l was.place.half rs more) (TellsOn l start (all ++ more) least)
    (λ image one. one_of_tells l start run.past run.asked all run.rows more least was.place.half image run.checkpoint run.split keeps.few one)
    (since_before d.moment d.left_since was.disk _ _ _ c.adopt.ensures.clock c.adopt.ensures.time (c.add_records-added.ensures.any_moment was.label.items rs more added resting durable)) in
    on_err c.add_records-added.result (record {
      few = omega (arith, keeps.few, length-append all more);
      each = λ image left. only.each image (g.met.D.Disk.counts_now c.add_records-added.new.disk (d.moment was.disk) image only.later left);
      running = λ is. absurd (cc is);
      all_safe = λ is. absurd (cc is);
    })

pub overflow_add-self : goal.overflow_add-self
overflow_add-self g c =
    omega (arith, small_half c.self.inside.capacity, c.requires.room, ap (λ (s : JournalState _). s.end) c.self.view_is, ap (λ (s : JournalState _). half_size s.layout.capacity) c.self.view_is)

pub overflow_add-self-in-Ok : goal.overflow_add-self-in-Ok
overflow_add-self-in-Ok g c = omega (arith, small_half c.self.inside.capacity, c.self.invariant.within, c.self.invariant.counted)

pub returns-in-Ok-clause-memory : goal.returns-in-Ok-clause-memory
returns-in-Ok-clause-memory g c memory =
    let d = g.D.Disk in
    let was = c.self.inside in
    let covers = subst (λ (s : JournalState _). IsForRecord d.spare_with (length c.args.bodies.now) c.args.memory s) (sym c.self.view_is) memory in
    subst (λ (s : JournalState _). d.refusals c.add_records-added.new.disk ≡ d.refusals s.disk) c.self.view_is
    (c.add_records-added.ensures.memory.enough (covers_more _ _ _ _ _ c.adopt.ensures.spare covers) ∙ c.adopt.ensures.refusals)

pub returns-in-Ok-clause-calls : goal.returns-in-Ok-clause-calls
returns-in-Ok-clause-calls g c = calls_since 4 (length c.args.bodies.now + 1) _ _ _ _ (c.adopt.ensures.calls ∙ ap (λ (s : JournalState _). g.D.Disk.tally s.disk) c.self.view_is)
    c.add_records-added.ensures.calls

pub returns-in-Err-clause-memory : goal.returns-in-Err-clause-memory
returns-in-Err-clause-memory g c memory =
    let d = g.D.Disk in
    let was = c.self.inside in
    let covers = subst (λ (s : JournalState _). IsForRecord d.spare_with (length c.args.bodies.now) c.args.memory s) (sym c.self.view_is) memory in
    subst (λ (s : JournalState _). d.refusals c.add_records-added.new.disk ≡ d.refusals s.disk) c.self.view_is
    (c.add_records-added.ensures.memory.enough (covers_more _ _ _ _ _ c.adopt.ensures.spare covers) ∙ c.adopt.ensures.refusals)

pub returns-in-Err-clause-calls : goal.returns-in-Err-clause-calls
returns-in-Err-clause-calls g c = calls_since 4 (length c.args.bodies.now + 1) _ _ _ _ (c.adopt.ensures.calls ∙ ap (λ (s : JournalState _). g.D.Disk.tally s.disk) c.self.view_is)
    c.add_records-added.ensures.calls

pub returns-in-Err-clause-sure : goal.returns-in-Err-clause-sure
returns-in-Err-clause-sure g c reliable memory =
    let d = g.D.Disk in
    let was = c.self.inside in
    let covers = subst (λ (s : JournalState _). IsForRecord d.spare_with (length c.args.bodies.now) c.args.memory s) (sym c.self.view_is) memory in
    let before = subst (λ (s : JournalState _). IsReliable d.tells_failures d.tally d.refusals s.disk) (sym c.self.view_is) reliable in
    let still = still_reliable d.tells_failures d.tally d.refusals was.disk c.adopt.new.self (ap (λ (t : Tally). t.promise) c.adopt.ensures.calls) c.adopt.ensures.refusals before in
    absurd (omega (arith, c.add_records-added.ensures.memory.enough (covers_more _ _ _ _ _ c.adopt.ensures.spare covers), c.in-Err.ensures.refusals.refused still))
