use Rattle.std.proofs.Common.{rules, ◌≡◌, ◌++◌, ◌∷◌, [], List, length, ◌∙◌, ap, arith, length-append}
use Rattle.std.specs.Prelude.{◌≤◌, vec_len, vec_capacity}
use Rattle.crash_disk.specs.Log.{Logged, Step, Wrote, total}
use Rattle.crash_disk.proofs.Logged.{total-push, joined_write, sizes, has_room, room_used, both_used, holds_all}
use Rattle.crash_disk.proofs.log.Log.write.Goals as goal

pub returns-then-not-holds-clause-sure : goal.returns-then-not-holds-clause-sure
returns-then-not-holds-clause-sure c room lt fits =
    let m = c.self.inside in
    let size = sizes m.calls.items m.bytes.items c.args.self.now.steps (ap (λ (l : Logged). l.steps) c.self.view_is) c.self.invariant.counted in
    let calls : c.len.result ≡ length m.calls.items = search rules in
    let bytes : c.len-before.result ≡ length m.bytes.items = search rules in
    absurd (has_room m.room c.holds.result _ _ c.holds.ensures c.if-not-holds.true (ap (λ (l : Logged). l.room) c.self.view_is ∙ room) (omega (arith, calls, lt, size.0))
    (omega (arith, bytes, fits, size.1)))

pub invariant_of-self-in-Ok : goal.invariant_of-self-in-Ok
invariant_of-self-in-Ok c =
    let m = c.self.inside in
    let i = c.self.invariant in
    let more = c.in-Ok.ensures.items in
    let bytes = c.in_ok-extend_from_slice.ensures.items in
    record {
      counted = omega (arith, ap total more, total-push m.calls.items c.args.at (length c.args.bytes.now), i.counted, ap length bytes, length-append m.bytes.items c.args.bytes.now);
      calls = omega (arith, i.calls, c.in-Ok.ensures.capacity);
      bytes = omega (arith, i.bytes, c.in_ok-extend_from_slice.ensures.capacity);
      reserved = λ is.
          let r = i.reserved is in
          let size : c.len-before.result ≡ length m.bytes.items = search rules in
          let used = both_used m.room c.holds.result _ _ c.holds.ensures c.if-not-holds.false is in
          (r.0, r.1, omega (arith, ap length bytes, length-append m.bytes.items c.args.bytes.now, size, used.1));
    }

pub returns-in-Ok-clause-added : goal.returns-in-Ok-clause-added
returns-in-Ok-clause-added c =
    let m = c.self.inside in
    let joined = joined_write m.calls.items c.push.new.self.items m.bytes.items c.extend_from_slice.new.self.items c.args.bytes.now c.args.at c.self.invariant.counted c.in-Ok.ensures.items
    c.in_ok-extend_from_slice.ensures.items in
    ap (λ (xs : List Step). record { steps = xs; room = m.room; sure_calls = m.sure_calls; sure_bytes = m.sure_bytes }) joined
    ∙ ap (λ (l : Logged). record l { steps = l.steps ++ Wrote c.args.at c.args.bytes.now ∷ [] }) c.self.view_is

pub returns-in-Ok-clause-within : goal.returns-in-Ok-clause-within
returns-in-Ok-clause-within c room =
    let m = c.self.inside in
    let size = sizes m.calls.items m.bytes.items c.args.self.now.steps (ap (λ (l : Logged). l.steps) c.self.view_is) c.self.invariant.counted in
    let calls : c.len.result ≡ length m.calls.items = search rules in
    let low = room_used m.room c.holds.result _ _ c.holds.ensures c.if-not-holds.false (ap (λ (l : Logged). l.room) c.self.view_is ∙ room) in
    omega (arith, calls, low, size.0)

pub returns-in-Ok-clause-within_bytes : goal.returns-in-Ok-clause-within_bytes
returns-in-Ok-clause-within_bytes c room =
    let m = c.self.inside in
    let size = sizes m.calls.items m.bytes.items c.args.self.now.steps (ap (λ (l : Logged). l.steps) c.self.view_is) c.self.invariant.counted in
    let bytes : c.len-before.result ≡ length m.bytes.items = search rules in
    let used = both_used m.room c.holds.result _ _ c.holds.ensures c.if-not-holds.false (ap (λ (l : Logged). l.room) c.self.view_is ∙ room) in
    omega (arith, bytes, used.1, size.1)

pub returns-then-not-holds-clause-covered : goal.returns-then-not-holds-clause-covered
returns-then-not-holds-clause-covered c lt fits =
    let m = c.self.inside in
    let i = c.self.invariant in
    let size = sizes m.calls.items m.bytes.items c.args.self.now.steps (ap (λ (l : Logged). l.steps) c.self.view_is) i.counted in
    let calls : c.len.result ≡ length m.calls.items = search rules in
    let bytes : c.len-before.result ≡ length m.bytes.items = search rules in
    let sure = ap (λ (l : Logged). l.sure_calls) c.self.view_is in
    let sure_bytes = ap (λ (l : Logged). l.sure_bytes) c.self.view_is in
    absurd (holds_all m.room c.holds.result _ _ c.holds.ensures c.if-not-holds.true (λ is.
    let r = i.reserved is in
    (omega (arith, calls, lt, size.0, r.0, sure), omega (arith, bytes, fits, size.1, r.1, r.2, sure_bytes))))

pub returns-in_err-extend_from_slice-clause-covered : goal.returns-in_err-extend_from_slice-clause-covered
returns-in_err-extend_from_slice-clause-covered c lt fits =
    let m = c.self.inside in
    let i = c.self.invariant in
    let size = sizes m.calls.items m.bytes.items c.args.self.now.steps (ap (λ (l : Logged). l.steps) c.self.view_is) i.counted in
    let sure = ap (λ (l : Logged). l.sure_bytes) c.self.view_is in
    let len : vec_len m.bytes ≡ length m.bytes.items = search rules in
    let within : vec_len m.bytes ≤ vec_capacity m.bytes = search rules in
    absurd (omega (arith, fits, size.1, sure, i.bytes, c.in_err-extend_from_slice.ensures.full, len, within))

pub returns-in-Err-clause-covered : goal.returns-in-Err-clause-covered
returns-in-Err-clause-covered c lt fits =
    let m = c.self.inside in
    let i = c.self.invariant in
    let size = sizes m.calls.items m.bytes.items c.args.self.now.steps (ap (λ (l : Logged). l.steps) c.self.view_is) i.counted in
    let sure = ap (λ (l : Logged). l.sure_calls) c.self.view_is in
    let len : vec_len m.calls ≡ length m.calls.items = search rules in
    absurd (omega (arith, lt, size.0, sure, i.calls, c.in-Err.ensures.full, len))
