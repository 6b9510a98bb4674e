use Rattle.std.proofs.Common.{◌∙◌, Err, ap, arith, length, sym, subst, List, ℕ}
use Rattle.teb_rules.specs.names.Rows.{row_of}
use Rattle.crash_disk.specs.Disk.{Only}
use Rattle.epoch_journal.specs.Layout.{half_size, layout}
use Rattle.epoch_journal.specs.Read.{IsReadAs}
use Rattle.epoch_journal.specs.Telling.{Tells, TellsOn}
use Rattle.epoch_journal.proofs.Beginning.{found_of, found_on_of}
use Rattle.epoch_journal.proofs.Room.{label_fits}
use Rattle.epoch_journal.proofs.recovered.RecoveredDisk.recover.Goals as goal

pub returns-in-Ok-read_disk-clause-found : goal.returns-in-Ok-read_disk-clause-found
returns-in-Ok-read_disk-clause-found g c all least before =
    let d = g.D.Disk in
    let disk = c.args.disk in
    let new = c.read_disk.new.disk in
    let file = d.seen disk in
    let start = row_of c.args.start.now in
    let t = subst (λ (x : ℕ × List ℕ). Tells (layout x.0 x.1) start all least file) (λ i. (sym c.capacity-capacity.ensures i, sym c.in-Ok.ensures.items i))
    (before file (g.met.D.Disk.read_is_left disk)) in
    let read = c.in-Ok-read_disk.ensures.read in
    let same = c.read_disk.ensures.quiet.same in
    let labelled = subst (λ (t : List ℕ). IsReadAs (layout c.capacity-capacity.result t) read.0 file) c.deref.ensures.value read.1 in
    let durable : Only (d.seen new) (d.may_leave new) = λ image left. c.in-Ok-read_disk.ensures.safe image left ∙ sym same in
    (t.k, found_of d.seen d.may_leave start all least file _ t read.0 labelled read.2 c.in-Ok-read_disk.ensures.current same durable)

pub returns-in-Ok-read_disk-clause-found_on : goal.returns-in-Ok-read_disk-clause-found_on
returns-in-Ok-read_disk-clause-found_on g c first all least before =
    let d = g.D.Disk in
    let disk = c.args.disk in
    let new = c.read_disk.new.disk in
    let file = d.seen disk in
    let on = subst (λ (x : ℕ × List ℕ). TellsOn (layout x.0 x.1) first all least file) (λ i. (sym c.capacity-capacity.ensures i, sym c.in-Ok.ensures.items i))
    (before file (g.met.D.Disk.read_is_left disk)) in
    let read = c.in-Ok-read_disk.ensures.read in
    let same = c.read_disk.ensures.quiet.same in
    let labelled = subst (λ (t : List ℕ). IsReadAs (layout c.capacity-capacity.result t) read.0 file) c.deref.ensures.value read.1 in
    let durable : Only (d.seen new) (d.may_leave new) = λ image left. c.in-Ok-read_disk.ensures.safe image left ∙ sym same in
    found_on_of d.seen d.may_leave first (row_of c.args.start.now) all least file _ on read.0 labelled read.2 c.in-Ok-read_disk.ensures.current same durable

pub returns-in-Err-read_disk-clause-not_full : goal.returns-in-Err-read_disk-clause-not_full
returns-in-Err-read_disk-clause-not_full g c first all least before is =
    let disk = c.args.disk in
    let on = before (g.D.Disk.seen disk) (g.met.D.Disk.read_is_left disk) in
    let fits = label_fits (layout (g.D.Disk.capacity disk) c.args.label.now) on.tells.stands.list (g.D.Disk.seen disk) on.tells.stands.has on.begun in
    let full = c.read_disk.ensures.full (c.in-Err-read_disk.is ∙ ap Err is) in
    omega (arith, fits, full, ap half_size c.capacity-capacity.ensures, ap length (c.deref.ensures.value ∙ c.in-Ok.ensures.items))
