use Rattle.std.proofs.Common.{◌≡◌, ℕ, List, length, ℤ, sym, ◌∙◌, subst}
use Rattle.teb_rules.specs.declared.names.Cell.{Cell}
use Rattle.teb_rules.specs.names.Rows.{row_of}
use Rattle.epoch_journal.specs.Layout.{layout}
use Rattle.epoch_journal.specs.Read.{half_found_at}
use Rattle.epoch_journal.proofs.Telling.{if_err, if_ok_one}
use Rattle.engine_store.specs.Opening.{AreOfTables, HasRowOutside, IsRefused, layout_of}
use Rattle.engine_store.specs.OpeningSteps.{IsRecovered}
use Rattle.engine_store.specs.declared.open_error.OpenError.{OpenError}
use Rattle.engine_store.specs.declared.open_error.OpenError.TheVariants as store
use Rattle.engine_store.proofs.Refused.{foreign, no_memory, not_read, untouched}
use Rattle.engine_store.proofs.opening.recover.Goals as goal

pub returns-in-Err-clause-refused : goal.returns-in-Err-clause-refused
returns-in-Err-clause-refused g c =
    let d = g.D.Disk in
    let disk = c.args.disk in
    let s = c.args.setup.now in
    let l = layout_of (d.capacity disk) s in
    let n = length s.names.tables in
    subst (λ (why : OpenError). IsRefused d.seen d.may_leave d.moment d.left_since d.faults d.capacity l (row_of s.rows) n disk disk why) (sym c.into.ensures)
    (no_memory d.seen d.may_leave d.moment d.left_since d.faults d.capacity l (row_of s.rows) n disk disk
    (untouched d.seen d.may_leave d.moment d.left_since d.faults d.capacity disk (g.met.D.Disk.only_now disk)))

pub returns-in-Ok-recover-clause-recovered : goal.returns-in-Ok-recover-clause-recovered
returns-in-Ok-recover-clause-recovered g c =
    let d = g.D.Disk in
    let disk = c.args.disk in
    let s = c.args.setup.now in
    let l = layout_of (d.capacity disk) s in
    let start = row_of s.rows in
    let mid = c.in-Ok-recover.recovered in
    let e = c.in-Ok-recover.ensures in
    let was = subst (λ (x : List ℕ × List (Cell × ℤ)). IsRecovered d.seen d.may_leave d.moment d.left_since d.faults d.capacity (layout (d.capacity disk) x.0) (row_of x.1) disk mid)
    (λ i. ((c.deref.ensures.value ∙ c.in-Ok.ensures) i, c.rows.ensures.rows i))
    (record {
      quiet = e.quiet.0;
      durable = e.quiet.1;
      layout = e.layout;
      current = e.current;
      has = record { list = e.read.0; read = e.read.1; table = e.read.2 };
      ascending = e.ascending;
      found = e.found;
      found_on = e.found_on;
    }) in
    if_ok_one c.check_rows.result
    (λ o. (o ≡ mid) × AreOfTables c.len.result o.rows)
    (λ o. IsRecovered d.seen d.may_leave d.moment d.left_since d.faults d.capacity l start disk o)
    (λ o p. subst (λ (r : _). IsRecovered d.seen d.may_leave d.moment d.left_since d.faults d.capacity l start disk r) (sym p.0) was)
    c.check_rows.ensures.inside

pub returns-in-Ok-recover-clause-refused : goal.returns-in-Ok-recover-clause-refused
returns-in-Ok-recover-clause-refused g c =
    let d = g.D.Disk in
    let disk = c.args.disk in
    let s = c.args.setup.now in
    let l = layout_of (d.capacity disk) s in
    let start = row_of s.rows in
    let n = length s.names.tables in
    let mid = c.in-Ok-recover.recovered in
    let e = c.in-Ok-recover.ensures in
    let was = subst (λ (x : List ℕ × List (Cell × ℤ)). IsRecovered d.seen d.may_leave d.moment d.left_since d.faults d.capacity (layout (d.capacity disk) x.0) (row_of x.1) disk mid)
    (λ i. ((c.deref.ensures.value ∙ c.in-Ok.ensures) i, c.rows.ensures.rows i))
    (record {
      quiet = e.quiet.0;
      durable = e.quiet.1;
      layout = e.layout;
      current = e.current;
      has = record { list = e.read.0; read = e.read.1; table = e.read.2 };
      ascending = e.ascending;
      found = e.found;
      found_on = e.found_on;
    }) in
    if_err c.check_rows.result
    (λ back. (back.disk ≡ mid.disk) × HasRowOutside c.len.result (row_of mid.rows) × (back.why ≡ store.Damaged (half_found_at mid.layout.capacity mid.current)))
    (λ back. IsRefused d.seen d.may_leave d.moment d.left_since d.faults d.capacity l start n disk back.disk back.why)
    (λ back p. foreign d.seen d.may_leave d.moment d.left_since d.faults d.capacity l start n disk mid was back.disk back.why p.0
    (subst (λ (k : ℕ). HasRowOutside k (row_of mid.rows)) c.len.ensures.count p.1) p.2)
    c.check_rows.ensures.outside

pub returns-clause-refused : goal.returns-clause-refused
returns-clause-refused g c =
    let d = g.D.Disk in
    let disk = c.args.disk in
    let n = length c.args.setup.now.names.tables in
    let back = c.in-Err-recover.back in
    let e = c.in-Err-recover.ensures in
    subst (λ (x : List ℕ × List (Cell × ℤ) × OpenError). IsRefused d.seen d.may_leave d.moment d.left_since d.faults d.capacity (layout (d.capacity disk) x.0) (row_of x.1) n disk back.disk x.2)
    (λ i. ((c.deref.ensures.value ∙ c.in-Ok.ensures) i, c.rows.ensures.rows i, sym c.into-in-Err-recover.ensures i))
    (not_read d.seen d.may_leave d.moment d.left_since d.faults d.capacity (layout (d.capacity disk) c.deref.result.now) (row_of c.rows.result.now) n disk back.disk back.why
    e.damaged e.other_capacity e.other_label e.full e.not_full e.cause e.unwritten)
