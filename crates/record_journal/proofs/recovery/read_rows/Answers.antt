use Rattle.std.proofs.Common.{rules, ◌≡◌, ◌∙◌, ap, sym, take, length, arith}
use Rattle.std.proofs.lemmas.List.{length-map}
use Rattle.teb_rules.specs.names.Rows.{row_of}
use Rattle.crash_disk.specs.Sizes.{default_capacity}
use Rattle.record_journal.specs.Journal.{after_records}
use Rattle.record_journal.specs.Views.{record_lists}
use Rattle.record_journal.proofs.Found.{as_read, no_damage, first_found, few_records, retag}
use Rattle.record_journal.proofs.recovery.read_rows.Goals as goal

pub returns-in-Err-clause-damaged : goal.returns-in-Err-clause-damaged
returns-in-Err-clause-damaged g c at is =
    let bytes = c.deref.ensures.value ∙ c.in_ok-bytes.ensures.bytes ∙ ap (take default_capacity) c.sync.ensures.seen in
    as_read (g.D.Disk.seen c.args.disk.now) c.deref.result.now _ bytes (c.in-Err.ensures.damaged at (retag c.in-Err.error at is))

pub returns-in-Err-clause-no_damage : goal.returns-in-Err-clause-no_damage
returns-in-Err-clause-no_damage g c least asked stands at is = no_damage least at asked (g.D.Disk.seen c.args.disk.now) stands (returns-in-Err-clause-damaged g c at is)

pub overflow_cast-commits : goal.overflow_cast-commits
overflow_cast-commits g c =
    let bytes = c.deref.ensures.value ∙ c.in_ok-bytes.ensures.bytes in
    let count : c.len-commits.result ≡ length c.in-Ok.records.items = search rules in
    omega (arith, count, few_records (g.D.Disk.seen c.sync.new.self) c.deref.result.now (length c.in-Ok.records.items) bytes c.in-Ok.ensures.few)

pub returns-clause-found : goal.returns-clause-found
returns-clause-found g c =
    let bytes = c.deref.ensures.value ∙ c.in_ok-bytes.ensures.bytes ∙ ap (take default_capacity) c.sync.ensures.seen in
    let count : c.len-commits.result ≡ length c.in-Ok.records.items = search rules in (
      record_lists c.in-Ok.records.items,
      as_read (g.D.Disk.seen c.args.disk.now) c.deref.result.now _ bytes c.in-Ok.ensures.whole,
      count ∙ sym (length-map c.in-Ok.records.items _),
      λ x. c.in_ok-rows.ensures.rows x ∙ ap (λ vs. after_records (record_lists vs) (row_of c.args.start.now) x) c.deref-2.ensures.value,
    )

pub returns-clause-first : goal.returns-clause-first
returns-clause-first g c least asked stands =
    let found = returns-clause-found g c in
    first_found least c.len-commits.result asked found.0 (g.D.Disk.seen c.args.disk.now) c.in_ok-rows.rows.items c.args.start.now stands found.1 found.2 found.3
