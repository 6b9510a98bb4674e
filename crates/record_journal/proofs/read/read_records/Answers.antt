use Rattle.std.proofs.Common.{rules, refl, ◌≡◌, ◌+◌, ◌*◌, ◌∷◌, [], ◌∙◌, ap, arith, length, length-append, length-drop}
use Rattle.record_journal.specs.Format.{reading, Damaged}
use Rattle.record_journal.specs.Views.{record_lists}
use Rattle.record_journal.proofs.Reading.{reads_on, damaged, whole, record_lists-push}
use Rattle.record_journal.proofs.read.read_records.Goals as goal

pub returns-in-None-clause-damaged : goal.returns-in-None-clause-damaged
returns-in-None-clause-damaged c at is =
    let l = c.loop-behind in
    let none = rw c.in-None.is at c.in_ok-read_record.ensures.record in
    let so_far = rw c.in-Some.ensures.behind at l.invariant.so_far in
    let same : l.at ≡ at = cc is in
    damaged (record_lists l.records.items) l.at c.in-Some.behind.now (reading 0 0 c.args.bytes.now) none so_far ∙ ap Damaged same

pub loop-behind-preserved : goal.loop-behind-preserved
loop-behind-preserved c =
    let l = c.loop-behind in
    let found = rw c.in-Some-2.is at c.in_ok-read_record.ensures.record in
    let long = rw c.in-Some-2.is at c.in_ok-read_record.ensures.length in
    let count : c.len.result ≡ length c.in-Some-2.record.items = search rules in
    let so_far = rw c.in-Some.ensures.behind at l.invariant.so_far in
    let counted = ap length c.in_ok-push-in-Some-2.ensures.items in
    let back = ap length c.split_at.ensures.back in
    let begins = ap length c.in-Some.ensures.behind in
    record {
      so_far =
          rw (c.in_ok-push-in-Some-2.ensures.items, record_lists-push, c.split_at.ensures.back)
          (reads_on (record_lists l.records.items) c.in-Some-2.record.items (4 + 14 * c.len.result) l.at c.in-Some.behind.now (reading 0 0 c.args.bytes.now) (omega (arith, count)) found
          (omega (arith, count, long)) so_far);
      place = omega (arith, back, begins, long, count, length-drop (4 + 14 * c.len.result) c.in-Some.behind.now, l.invariant.place);
      few = omega (arith, counted, length-append l.records.items (c.in-Some-2.record ∷ []), l.invariant.few);
    }

pub returns-clause-whole : goal.returns-clause-whole
returns-clause-whole c =
    let l = c.loop-behind in
    whole (record_lists l.records.items) _ (reading 0 0 c.args.bytes.now) (c.in_default.ensures.closed refl l.at) l.invariant.so_far
