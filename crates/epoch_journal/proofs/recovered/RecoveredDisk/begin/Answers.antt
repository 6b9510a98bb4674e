use Rattle.std.proofs.Common.{◌∷◌, [], ◌∙◌, Err, ap, arith, length, sym, subst, List, ℕ, ℤ}
use Rattle.teb_rules.specs.declared.names.Cell.{Cell}
use Rattle.crash_disk.specs.Disk.{LeavesOnly, Only}
use Rattle.record_journal.proofs.Moments.{weaker}
use Rattle.epoch_journal.specs.Layout.{layout}
use Rattle.epoch_journal.specs.Halves.{HasOneOf, IsAt, IsResting}
use Rattle.epoch_journal.specs.State.{RecoveredState}
use Rattle.epoch_journal.specs.Read.{IsCurrently}
use Rattle.epoch_journal.specs.Telling.{Tells, TellsOn, checkpoint_of}
use Rattle.epoch_journal.specs.Kept.{HasFound}
use Rattle.epoch_journal.proofs.Beginning.{begun_found, begun_keeps, finds_room, tells_again, tells_on_again}
use Rattle.epoch_journal.proofs.Telling.{begun}
use Rattle.epoch_journal.proofs.recovered.RecoveredDisk.begin.Goals as goal

pub returns-in-Ok-clause-found : goal.returns-in-Ok-clause-found
returns-in-Ok-clause-found g c start all least k has =
    let d = g.D.Disk in
    let was = c.self.inside in
    let found = subst (λ (s : RecoveredState _). HasFound d.seen d.may_leave start all least k s) (sym c.self.view_is) has in
    let at = subst (λ (t : List ℕ). IsAt (layout was.capacity t) found.list was.current (d.seen was.disk)) (sym c.deref.ensures.value) found.at in
    let after = c.in-Ok.ensures.begun found.list at found.durable in
    let resting = subst (λ (x : List ℕ × List (Cell × ℤ)). IsResting (layout was.capacity x.0) c.in-Ok.place.half (checkpoint_of x.1 ∷ []) c.in-Ok.place.end (d.seen c.begin_with.new.disk))
    (λ i. (c.deref.ensures.value i, c.deref-2.ensures.value i)) after.0 in
    begun_keeps d.seen d.may_leave start all least k _ found _ c.in-Ok.ensures.place.0 resting after.1

pub returns-in-Ok-clause-begins : goal.returns-in-Ok-clause-begins
returns-in-Ok-clause-begins g c is only =
    let d = g.D.Disk in
    let was = c.self.inside in
    let current = subst (λ (s : RecoveredState _). IsCurrently s.layout.capacity s.current (d.seen s.disk)) (sym c.self.view_is) is in
    let durable = subst (λ (s : RecoveredState _). Only (d.seen s.disk) (d.may_leave s.disk)) (sym c.self.view_is) only in
    let resting = subst (λ (x : List ℕ × List (Cell × ℤ)). IsResting (layout was.capacity x.0) c.in-Ok.place.half (checkpoint_of x.1 ∷ []) c.in-Ok.place.end (d.seen c.begin_with.new.disk))
    (λ i. (c.deref.ensures.value i, c.deref-2.ensures.value i)) (c.in-Ok.ensures.resting current durable) in
    begun d.seen d.may_leave was.rows.items _ c.in-Ok.ensures.place.0 resting c.in-Ok.ensures.durable

pub returns-in-Ok-clause-any_moment : goal.returns-in-Ok-clause-any_moment
returns-in-Ok-clause-any_moment g c start all least k has =
    let d = g.D.Disk in
    let was = c.self.inside in
    let found = subst (λ (s : RecoveredState _). HasFound d.seen d.may_leave start all least k s) (sym c.self.view_is) has in
    let l = layout was.capacity was.label.items in
    let ck = checkpoint_of was.rows.items in
    let at = subst (λ (t : List ℕ). IsAt (layout was.capacity t) found.list was.current (d.seen was.disk)) (sym c.deref.ensures.value) found.at in
    let only = subst (λ (x : List ℕ × List (Cell × ℤ)). LeavesOnly d.moment d.left_since was.disk c.begin_with.new.disk (HasOneOf (layout was.capacity x.0) found.list (checkpoint_of x.1 ∷ [])))
    (λ i. (c.deref.ensures.value i, c.deref-2.ensures.value i))
    (c.begin_with.ensures.any_moment found.list at found.durable) in
    subst (λ (s : RecoveredState _). LeavesOnly d.moment d.left_since s.disk c.begin_with.new.disk (Tells s.layout start all least)) c.self.view_is
    (weaker d.moment d.left_since was.disk c.begin_with.new.disk (HasOneOf l found.list (ck ∷ [])) (Tells l start all least) (tells_again d.seen d.may_leave start all least k _ found) only)

pub returns-in-Err-clause-any_moment_back : goal.returns-in-Err-clause-any_moment_back
returns-in-Err-clause-any_moment_back g c start all least k has =
    let d = g.D.Disk in
    let was = c.self.inside in
    let found = subst (λ (s : RecoveredState _). HasFound d.seen d.may_leave start all least k s) (sym c.self.view_is) has in
    let l = layout was.capacity was.label.items in
    let ck = checkpoint_of was.rows.items in
    let at = subst (λ (t : List ℕ). IsAt (layout was.capacity t) found.list was.current (d.seen was.disk)) (sym c.deref.ensures.value) found.at in
    let only = subst (λ (x : List ℕ × List (Cell × ℤ)). LeavesOnly d.moment d.left_since was.disk c.begin_with.new.disk (HasOneOf (layout was.capacity x.0) found.list (checkpoint_of x.1 ∷ [])))
    (λ i. (c.deref.ensures.value i, c.deref-2.ensures.value i))
    (c.begin_with.ensures.any_moment found.list at found.durable) in
    subst (λ (s : RecoveredState _). LeavesOnly d.moment d.left_since s.disk c.begin_with.new.disk (Tells s.layout start all least)) c.self.view_is
    (weaker d.moment d.left_since was.disk c.begin_with.new.disk (HasOneOf l found.list (ck ∷ [])) (Tells l start all least) (tells_again d.seen d.may_leave start all least k _ found) only)

pub returns-in-Ok-clause-any_moment_on : goal.returns-in-Ok-clause-any_moment_on
returns-in-Ok-clause-any_moment_on g c start all least k has begun =
    let d = g.D.Disk in
    let was = c.self.inside in
    let found = begun_found d.seen d.may_leave start all least k _ _ c.self.view_is has begun in
    let l = layout was.capacity was.label.items in
    let ck = checkpoint_of was.rows.items in
    let at = subst (λ (t : List ℕ). IsAt (layout was.capacity t) found.0.list was.current (d.seen was.disk)) (sym c.deref.ensures.value) found.0.at in
    let only = subst (λ (x : List ℕ × List (Cell × ℤ)). LeavesOnly d.moment d.left_since was.disk c.begin_with.new.disk (HasOneOf (layout was.capacity x.0) found.0.list (checkpoint_of x.1 ∷ [])))
    (λ i. (c.deref.ensures.value i, c.deref-2.ensures.value i))
    (c.begin_with.ensures.any_moment found.0.list at found.0.durable) in
    subst (λ (s : RecoveredState _). LeavesOnly d.moment d.left_since s.disk c.begin_with.new.disk (TellsOn s.layout start all least)) c.self.view_is
    (weaker d.moment d.left_since was.disk c.begin_with.new.disk (HasOneOf l found.0.list (ck ∷ [])) (TellsOn l start all least) (tells_on_again d.seen d.may_leave start all least k _ found.0 found.1)
    only)

pub returns-in-Err-clause-any_moment_on_back : goal.returns-in-Err-clause-any_moment_on_back
returns-in-Err-clause-any_moment_on_back g c start all least k has begun =
    let d = g.D.Disk in
    let was = c.self.inside in
    let found = begun_found d.seen d.may_leave start all least k _ _ c.self.view_is has begun in
    let l = layout was.capacity was.label.items in
    let ck = checkpoint_of was.rows.items in
    let at = subst (λ (t : List ℕ). IsAt (layout was.capacity t) found.0.list was.current (d.seen was.disk)) (sym c.deref.ensures.value) found.0.at in
    let only = subst (λ (x : List ℕ × List (Cell × ℤ)). LeavesOnly d.moment d.left_since was.disk c.begin_with.new.disk (HasOneOf (layout was.capacity x.0) found.0.list (checkpoint_of x.1 ∷ [])))
    (λ i. (c.deref.ensures.value i, c.deref-2.ensures.value i))
    (c.begin_with.ensures.any_moment found.0.list at found.0.durable) in
    subst (λ (s : RecoveredState _). LeavesOnly d.moment d.left_since s.disk c.begin_with.new.disk (TellsOn s.layout start all least)) c.self.view_is
    (weaker d.moment d.left_since was.disk c.begin_with.new.disk (HasOneOf l found.0.list (ck ∷ [])) (TellsOn l start all least) (tells_on_again d.seen d.may_leave start all least k _ found.0 found.1)
    only)

pub returns-in-Err-clause-not_full : goal.returns-in-Err-clause-not_full
returns-in-Err-clause-not_full g c start all least k has begun is =
    let d = g.D.Disk in
    let found = begun_found d.seen d.may_leave start all least k _ _ c.self.view_is has begun in
    let fits = finds_room d.seen d.may_leave start all least k _ found.0 found.1 c.self.invariant.ascending in
    let full = c.begin_with.ensures.full (c.in-Err.is ∙ ap Err is) in
    omega (arith, fits, full, ap length c.deref.ensures.value, ap length c.deref-2.ensures.value)
