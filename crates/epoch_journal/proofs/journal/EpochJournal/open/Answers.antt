use Rattle.std.proofs.Common.{◌≡◌, ◌≤◌, List, ℕ, false, length, take, ap, subst, sym, ◌∙◌}
use Rattle.teb_rules.specs.declared.names.Cell.{Cell}
use Rattle.teb_rules.specs.names.Rows.{row_of}
use Rattle.crash_disk.specs.Disk.{LeavesOnly}
use Rattle.record_journal.specs.Format.{Record}
use Rattle.record_journal.specs.Journal.{after_records}
use Rattle.record_journal.proofs.Moments.{weaker}
use Rattle.epoch_journal.specs.Layout.{Layout, layout}
use Rattle.epoch_journal.specs.Telling.{Tells, TellsOn, table_of}
use Rattle.epoch_journal.specs.Kept.{Keeps}
use Rattle.epoch_journal.specs.Read.{IsCurrently, IsReadAs}
use Rattle.epoch_journal.proofs.Moments.{and_then}
use Rattle.epoch_journal.proofs.Telling.{if_err, if_ok, if_ok_one}
use Rattle.epoch_journal.proofs.journal.EpochJournal.open.Goals as goal

pub returns-clause-found : goal.returns-clause-found
returns-clause-found g c all least before =
    let d = g.D.Disk in
    let start = row_of c.args.start.now in
    let found = c.in-Ok.ensures.found all least before in
    let k = found.0 in
    let has = found.1 in
    if_ok c.begin.result
    (λ o. Keeps d.seen d.may_leave start (take k all) k o.0)
    (λ o. (o.0.stopped ≡ false) × (o.0.acknowledged ≡ 0) × (o.0.layout ≡ c.in-Ok.recovered.layout) × (o.1.items ≡ c.in-Ok.recovered.rows))
    (λ o. (x : ℕ) × (least ≤ x) × (x ≤ length all) × ((y : Cell) → row_of o.1.items y ≡ after_records (take x all) start y) × Keeps d.seen d.may_leave start (take x all) x o.0)
    (λ o kept run. (k, has.no_fewer, has.no_more, λ y. ap (λ l. row_of l y) run.3 ∙ has.rows y, kept))
    (c.begin.ensures.found start all least k has)
    c.begin.ensures.running

pub returns-clause-begins : goal.returns-clause-begins
returns-clause-begins g c =
    let d = g.D.Disk in
    let mid = c.in-Ok.recovered in
    let quiet = c.in-Ok.ensures.quiet in
    let current = subst (λ (x : ℕ × List ℕ). IsCurrently x.0 mid.current x.1) (λ i. (sym (ap (λ (l : Layout). l.capacity) c.in-Ok.ensures.layout) i, sym quiet.0.same i)) c.in-Ok.ensures.current in
    c.begin.ensures.begins current (λ image left. quiet.1 image left ∙ sym quiet.0.same)

pub returns-clause-read : goal.returns-clause-read
returns-clause-read g c =
    let start = row_of c.args.start.now in
    let file = g.D.Disk.seen c.args.disk in
    let l = layout (g.D.Disk.capacity c.args.disk) c.args.label.now in
    let read = c.in-Ok.ensures.read in
    if_ok_one c.begin.result
    (λ o. (o.0.stopped ≡ false) × (o.0.acknowledged ≡ 0) × (o.0.layout ≡ c.in-Ok.recovered.layout) × (o.1.items ≡ c.in-Ok.recovered.rows))
    (λ o. (rs : List Record) × IsReadAs l rs file × ((y : Cell) → row_of o.1.items y ≡ table_of start rs y))
    (λ o run. (read.0, read.1, λ y. ap (λ l. row_of l y) run.3 ∙ read.2 y))
    c.begin.ensures.running

pub returns-clause-any_moment : goal.returns-clause-any_moment
returns-clause-any_moment g c all least before =
    let d = g.D.Disk in
    let start = row_of c.args.start.now in
    let disk = c.args.disk in
    let mid = c.in-Ok.recovered in
    let l = layout (d.capacity disk) c.args.label.now in
    let found = c.in-Ok.ensures.found all least before in
    if_ok_one c.begin.result
    (λ o. LeavesOnly d.moment d.left_since mid.disk o.0.disk (Tells mid.layout start all least))
    (λ o. LeavesOnly d.moment d.left_since disk o.0.disk (Tells l start all least))
    (λ o only. and_then d.moment d.left_since disk mid.disk o.0.disk (d.may_leave disk) (Tells mid.layout start all least) (Tells l start all least) c.in-Ok.ensures.quiet.0.any_moment only before
    (λ image tells. subst (λ (m : Layout). Tells m start all least image) c.in-Ok.ensures.layout tells))
    (c.begin.ensures.any_moment start all least found.0 found.1)

pub returns-clause-any_moment_back : goal.returns-clause-any_moment_back
returns-clause-any_moment_back g c all least before =
    let d = g.D.Disk in
    let start = row_of c.args.start.now in
    let disk = c.args.disk in
    let mid = c.in-Ok.recovered in
    let l = layout (d.capacity disk) c.args.label.now in
    let found = c.in-Ok.ensures.found all least before in
    if_err c.begin.result
    (λ back. LeavesOnly d.moment d.left_since mid.disk back.disk (Tells mid.layout start all least))
    (λ back. LeavesOnly d.moment d.left_since disk back.disk (Tells l start all least))
    (λ back only. and_then d.moment d.left_since disk mid.disk back.disk (d.may_leave disk) (Tells mid.layout start all least) (Tells l start all least) c.in-Ok.ensures.quiet.0.any_moment only before
    (λ image tells. subst (λ (m : Layout). Tells m start all least image) c.in-Ok.ensures.layout tells))
    (c.begin.ensures.any_moment_back start all least found.0 found.1)

pub returns-clause-found_on : goal.returns-clause-found_on
returns-clause-found_on g c first all least before =
    let d = g.D.Disk in
    let found = c.in-Ok.ensures.found_on first all least before in
    let k = found.0 in
    let has = found.1 in
    if_ok c.begin.result
    (λ o. Keeps d.seen d.may_leave first (take k all) k o.0)
    (λ o. (o.0.stopped ≡ false) × (o.0.acknowledged ≡ 0) × (o.0.layout ≡ c.in-Ok.recovered.layout) × (o.1.items ≡ c.in-Ok.recovered.rows))
    (λ o. (x : ℕ) × (least ≤ x) × (x ≤ length all) × ((y : Cell) → row_of o.1.items y ≡ after_records (take x all) first y) × Keeps d.seen d.may_leave first (take x all) x o.0)
    (λ o kept run. (k, has.no_fewer, has.no_more, λ y. ap (λ l. row_of l y) run.3 ∙ has.rows y, kept))
    (c.begin.ensures.found first all least k has)
    c.begin.ensures.running

pub returns-clause-any_moment_on : goal.returns-clause-any_moment_on
returns-clause-any_moment_on g c first all least before =
    let d = g.D.Disk in
    let disk = c.args.disk in
    let mid = c.in-Ok.recovered in
    let l = layout (d.capacity disk) c.args.label.now in
    let found = c.in-Ok.ensures.found_on first all least before in
    if_ok_one c.begin.result
    (λ o. LeavesOnly d.moment d.left_since mid.disk o.0.disk (TellsOn mid.layout first all least))
    (λ o. LeavesOnly d.moment d.left_since disk o.0.disk (TellsOn l first all least))
    (λ o only. and_then d.moment d.left_since disk mid.disk o.0.disk (d.may_leave disk) (TellsOn mid.layout first all least) (TellsOn l first all least) c.in-Ok.ensures.quiet.0.any_moment only before
    (λ image tells. subst (λ (m : Layout). TellsOn m first all least image) c.in-Ok.ensures.layout tells))
    (c.begin.ensures.any_moment_on first all least found.0 found.1 found.2)

pub returns-clause-any_moment_on_back : goal.returns-clause-any_moment_on_back
returns-clause-any_moment_on_back g c first all least before =
    let d = g.D.Disk in
    let disk = c.args.disk in
    let mid = c.in-Ok.recovered in
    let l = layout (d.capacity disk) c.args.label.now in
    let found = c.in-Ok.ensures.found_on first all least before in
    if_err c.begin.result
    (λ back. LeavesOnly d.moment d.left_since mid.disk back.disk (TellsOn mid.layout first all least))
    (λ back. LeavesOnly d.moment d.left_since disk back.disk (TellsOn l first all least))
    (λ back only. and_then d.moment d.left_since disk mid.disk back.disk (d.may_leave disk) (TellsOn mid.layout first all least) (TellsOn l first all least) c.in-Ok.ensures.quiet.0.any_moment only
    before
    (λ image tells. subst (λ (m : Layout). TellsOn m first all least image) c.in-Ok.ensures.layout tells))
    (c.begin.ensures.any_moment_on_back first all least found.0 found.1 found.2)

pub returns-clause-not_full : goal.returns-clause-not_full
returns-clause-not_full g c first all least before =
    let found = c.in-Ok.ensures.found_on first all least before in
    c.begin.ensures.not_full first all least found.0 found.1 found.2

pub returns-in-Err-clause-any_moment_on_back : goal.returns-in-Err-clause-any_moment_on_back
returns-in-Err-clause-any_moment_on_back g c first all least before =
    let d = g.D.Disk in
    let disk = c.args.disk in
    let l = layout (d.capacity disk) c.args.label.now in
    weaker d.moment d.left_since disk c.in-Err.back.disk (d.may_leave disk) (TellsOn l first all least) before c.in-Err.ensures.unwritten.any_moment
