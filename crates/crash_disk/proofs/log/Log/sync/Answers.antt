use Rattle.std.proofs.Common.{rules, ◌≡◌, ◌++◌, ◌∷◌, [], List, length, ◌∙◌, ap, arith}
use Rattle.std.specs.Prelude.{vec_len}
use Rattle.crash_disk.specs.Log.{Logged, Step, Synced, total}
use Rattle.crash_disk.proofs.Logged.{total-sync, joined_sync, sizes, has_room, room_used, holds_all}
use Rattle.crash_disk.proofs.log.Log.sync.Goals as goal

pub returns-then-not-holds-clause-sure : goal.returns-then-not-holds-clause-sure
returns-then-not-holds-clause-sure c room lt =
    let m = c.self.inside in
    let size = sizes m.calls.items m.bytes.items c.args.self.now.steps (ap (λ (l : Logged). l.steps) c.self.view_is) c.self.invariant.counted in
    let calls : c.len.result ≡ length m.calls.items = search rules in
    absurd (has_room m.room c.holds.result _ _ c.holds.ensures c.if-not-holds.true (ap (λ (l : Logged). l.room) c.self.view_is ∙ room) (omega (arith, calls, lt, size.0)) (omega arith))

pub invariant_of-self-2 : goal.invariant_of-self-2
invariant_of-self-2 c =
    let m = c.self.inside in
    let i = c.self.invariant in
    let more = c.in_ok-push.ensures.items in
    record {
      counted = ap total more ∙ total-sync m.calls.items ∙ i.counted;
      calls = omega (arith, i.calls, c.push.ensures.capacity);
      bytes = i.bytes;
      reserved = i.reserved;
    }

pub returns-clause-added : goal.returns-clause-added
returns-clause-added c =
    let m = c.self.inside in
    let joined = joined_sync m.calls.items c.push.new.self.items m.bytes.items c.in_ok-push.ensures.items in
    ap (λ (xs : List Step). record { steps = xs; room = m.room; sure_calls = m.sure_calls; sure_bytes = m.sure_bytes }) joined
    ∙ ap (λ (l : Logged). record l { steps = l.steps ++ Synced ∷ [] }) c.self.view_is

pub returns-clause-within : goal.returns-clause-within
returns-clause-within c room =
    let m = c.self.inside in
    let size = sizes m.calls.items m.bytes.items c.args.self.now.steps (ap (λ (l : Logged). l.steps) c.self.view_is) c.self.invariant.counted in
    let calls : c.len.result ≡ length m.calls.items = search rules in
    let low = room_used m.room c.holds.result _ _ c.holds.ensures c.if-not-holds.false (ap (λ (l : Logged). l.room) c.self.view_is ∙ room) in
    omega (arith, calls, low, size.0)

pub returns-then-not-holds-clause-covered : goal.returns-then-not-holds-clause-covered
returns-then-not-holds-clause-covered c lt =
    let m = c.self.inside in
    let i = c.self.invariant in
    let size = sizes m.calls.items m.bytes.items c.args.self.now.steps (ap (λ (l : Logged). l.steps) c.self.view_is) i.counted in
    let calls : c.len.result ≡ length m.calls.items = search rules in
    let sure = ap (λ (l : Logged). l.sure_calls) c.self.view_is in
    absurd (holds_all m.room c.holds.result _ _ c.holds.ensures c.if-not-holds.true (λ is.
    let r = i.reserved is in
    (omega (arith, calls, lt, size.0, r.0, sure), omega arith)))

pub returns-in_err-push-clause-covered : goal.returns-in_err-push-clause-covered
returns-in_err-push-clause-covered c lt =
    let m = c.self.inside in
    let i = c.self.invariant in
    let size = sizes m.calls.items m.bytes.items c.args.self.now.steps (ap (λ (l : Logged). l.steps) c.self.view_is) i.counted in
    let sure = ap (λ (l : Logged). l.sure_calls) c.self.view_is in
    let len : vec_len m.calls ≡ length m.calls.items = search rules in
    absurd (omega (arith, lt, size.0, sure, i.calls, c.in_err-push.ensures.full, len))
