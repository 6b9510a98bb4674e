use Rattle.std.proofs.Common.{rules, ◌≡◌, ◌+◌, ◌-◌, ◌≤◌, length, subst, arith}
use Rattle.std.specs.Prelude.{vec_capacity}
use Rattle.crash_disk.specs.Log.{Logged, steps, byte_count}
use Rattle.crash_disk.specs.Spare.{raised}
use Rattle.crash_disk.proofs.Logged.{length-steps, count-steps, both_used}
use Rattle.crash_disk.proofs.Spares.{raised_covers}
use Rattle.crash_disk.proofs.log.Log.reserve.Goals as goal

pub returns-clause-calls : goal.returns-clause-calls
returns-clause-calls c =
    let m = c.self.inside in
    let all : c.in_ok-calls.calls ≡ length m.calls.items + c.args.calls = search rules in
    let used = both_used m.room c.holds.result _ _ c.holds.ensures c.if-not-holds.false in
    let len = length-steps m.calls.items m.bytes.items in
    subst (λ (l : Logged). c.args.calls ≤ raised l.room l.sure_calls (vec_capacity c.in_ok-more_than.field-0) - length l.steps) c.self.view_is
    (raised_covers m.room c.args.calls (length (steps m.calls.items m.bytes.items)) m.sure_calls (vec_capacity c.in_ok-more_than.field-0)
    (omega (arith, len, all, c.in_ok-more_than.ensures))
    (λ is. omega (arith, len, all, (used is).0, (c.self.invariant.reserved is).0)))

pub returns-clause-bytes : goal.returns-clause-bytes
returns-clause-bytes c =
    let m = c.self.inside in
    let all : c.in_ok-bytes.bytes ≡ length m.bytes.items + c.args.bytes = search rules in
    let used = both_used m.room c.holds.result _ _ c.holds.ensures c.if-not-holds.false in
    let counted = c.self.invariant.counted in
    let count = count-steps m.calls.items m.bytes.items (omega (arith, counted)) in
    subst (λ (l : Logged). c.args.bytes ≤ raised l.room l.sure_bytes (vec_capacity c.in_ok-more_than-2.field-0) - byte_count l.steps) c.self.view_is
    (raised_covers m.room c.args.bytes (byte_count (steps m.calls.items m.bytes.items)) m.sure_bytes (vec_capacity c.in_ok-more_than-2.field-0)
    (omega (arith, count, counted, all, c.in_ok-more_than-2.ensures))
    (λ is. omega (arith, count, counted, all, (used is).1, (c.self.invariant.reserved is).1)))
