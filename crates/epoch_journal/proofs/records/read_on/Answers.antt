use Rattle.std.proofs.Common.{rules, ◌≡◌, ◌+◌, ◌-◌, ◌*◌, ◌∙◌, Err, None, arith, ap, sym, subst, List, ℕ, length, take, drop}
use Rattle.crash_disk.proofs.Groups.{up_to_then}
use Rattle.record_journal.specs.Views.{record_lists}
use Rattle.record_journal.specs.Format.{reading, Damaged}
use Rattle.record_journal.proofs.Reading.{record_lists-push, whole}
use Rattle.epoch_journal.specs.Next.{IsNext, HasNone}
use Rattle.epoch_journal.proofs.Errors.{same_damaged}
use Rattle.epoch_journal.proofs.Quiets.{quiet_then}
use Rattle.epoch_journal.proofs.Nexts.{step, step_within, step_damaged}
use Rattle.epoch_journal.proofs.records.read_on.Goals as goal

pub loop-records-preserved : goal.loop-records-preserved
loop-records-preserved g c =
    let d = g.D.Disk in
    let l = c.loop-records in
    let i = l.invariant in
    let until = c.args.until in
    let file = d.seen c.args.disk.now in
    let r = c.in-Some.record.items in
    let count : c.len.result ≡ length r = search rules in
    let k = 5 + 14 * c.len.result in
    let is : k ≡ 5 + 14 * length r = ap (λ (n : ℕ). 5 + 14 * n) count in
    let found = rw c.in-Some.is at c.in_ok-record.ensures.found in
    let next = subst (λ (f : List ℕ). IsNext r (take (until - l.place) (drop l.place f))) i.quiet.same found in
    let counted = rw c.in-Some.is at c.in_ok-record.ensures.record_calls in
    let both = up_to_then (2 * (l.place - c.args.at)) 0 (9 + 14 * length r) 0 _ _ _ i.calls counted in
    let rs = record_lists l.records.items in
    let total = reading 0 c.args.at (take (until - c.args.at) (drop c.args.at file)) in
    record {
      so_far = rw (c.in_ok-push.ensures.items, record_lists-push) (step rs file l.place until total i.within i.so_far r k is next);
      from = omega (arith, i.from);
      within = step_within rs file l.place until total i.within i.so_far r k is next;
      quiet = quiet_then d.seen d.may_leave d.moment d.left_since d.faults d.capacity c.args.disk.now l.disk c.read_next.new.disk i.quiet c.read_next.ensures.quiet;
      granted = c.in_ok-record.ensures.granted ∙ i.granted;
      calls = record { made = omega (arith, both.made, count, i.from); written = omega (arith, both.written); promise = both.promise };
    }

pub returns-in_err-record-clause-damaged : goal.returns-in_err-record-clause-damaged
returns-in_err-record-clause-damaged g c place is =
    let l = c.loop-records in
    let i = l.invariant in
    let until = c.args.until in
    let file = g.D.Disk.seen c.args.disk.now in
    let rs = record_lists l.records.items in
    let total = reading 0 c.args.at (take (until - c.args.at) (drop c.args.at file)) in
    let e = same_damaged c.from_residual.result c.in_err-record.field-0.0 place c.from_residual.ensures.1 is in
    let bad = c.in_err-record.ensures.damaged place (ap Err e) in
    let none = subst (λ (f : List ℕ). HasNone (take (until - l.place) (drop l.place f))) i.quiet.same bad.1 in
    step_damaged rs file l.place until total i.within i.so_far none ∙ ap Damaged (sym bad.0)

pub returns-clause-whole : goal.returns-clause-whole
returns-clause-whole g c =
    let l = c.loop-records in
    let i = l.invariant in
    let until = c.args.until in
    let file = g.D.Disk.seen c.args.disk.now in
    let rs = record_lists l.records.items in
    let none : c.in_ok-record.field-0 ≡ None = search rules in
    let closed = rw none at c.in_ok-record.ensures.found in
    whole rs (reading 0 l.place (take (until - l.place) (drop l.place file))) (reading 0 c.args.at (take (until - c.args.at) (drop c.args.at file)))
    (ap (λ (f : List ℕ). reading 0 l.place (take (until - l.place) (drop l.place f))) (sym i.quiet.same) ∙ closed l.place) i.so_far
