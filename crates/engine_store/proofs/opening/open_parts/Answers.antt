use Rattle.std.proofs.Common.{length, sym, ◌∙◌, subst}
use Rattle.teb_rules.specs.names.Rows.{row_of}
use Rattle.crash_disk.specs.Disk.{IsQuiet}
use Rattle.engine_store.specs.Opening.{IsRefused, layout_of}
use Rattle.engine_store.specs.declared.open_error.OpenError.{OpenError}
use Rattle.engine_store.proofs.Opened.{opened}
use Rattle.engine_store.proofs.Refused.{no_memory, not_begun}
use Rattle.engine_store.proofs.opening.open_parts.Goals as goal

pub returns-in-Err-engine_over-clause-refused : goal.returns-in-Err-engine_over-clause-refused
returns-in-Err-engine_over-clause-refused g c =
    let d = g.D.Disk in
    let disk = c.args.disk in
    let s = c.args.setup in
    let l = layout_of (d.capacity disk) s in
    let n = length s.names.tables in
    subst (λ (why : OpenError). IsRefused d.seen d.may_leave d.moment d.left_since d.faults d.capacity l (row_of s.rows) n disk c.into_disk.result why) (sym c.into.ensures)
    (no_memory d.seen d.may_leave d.moment d.left_since d.faults d.capacity l (row_of s.rows) n disk c.into_disk.result
    (subst (λ (x : _). IsQuiet d.seen d.may_leave d.moment d.left_since d.faults d.capacity disk x) (sym c.into_disk.ensures) c.in-Ok.ensures.recovered.quiet))

pub returns-in-Ok-begin-clause-opened : goal.returns-in-Ok-begin-clause-opened
returns-in-Ok-begin-clause-opened g c =
    let d = g.D.Disk in
    let disk = c.args.disk in
    let s = c.args.setup in
    let e = c.in-Ok-begin.ensures in
    opened d.seen d.may_leave d.moment d.left_since d.faults d.capacity (layout_of (d.capacity disk) s) (row_of s.rows) disk c.in-Ok.recovered c.in-Ok.ensures.recovered
    c.in-Ok-engine_over.engine.store.rows c.in-Ok-begin._rows.items c.in-Ok-begin.journal (c.in-Ok-engine_over.ensures.rows ∙ c.rows.ensures)
    e.running e.begins e.found e.any_moment e.any_moment_on

pub returns-in-Err-begin-clause-refused : goal.returns-in-Err-begin-clause-refused
returns-in-Err-begin-clause-refused g c =
    let d = g.D.Disk in
    let disk = c.args.disk in
    let s = c.args.setup in
    let l = layout_of (d.capacity disk) s in
    let n = length s.names.tables in
    let back = c.in-Err-begin.back in
    let e = c.in-Err-begin.ensures in
    subst (λ (why : OpenError). IsRefused d.seen d.may_leave d.moment d.left_since d.faults d.capacity l (row_of s.rows) n disk back.disk why) (sym c.into-in-Err-begin.ensures)
    (not_begun d.seen d.may_leave d.moment d.left_since d.faults d.capacity l (row_of s.rows) n disk c.in-Ok.recovered c.in-Ok.ensures.recovered back.disk back.why
    e.errors e.not_full e.any_moment_back e.any_moment_on_back)
