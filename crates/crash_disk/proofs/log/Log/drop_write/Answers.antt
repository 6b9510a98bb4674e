use Rattle.std.proofs.Common.{rules, ◌≡◌, [], List, ℕ, length, ◌-◌, refl, sym, ◌∙◌, ap, subst, arith, take, inl, Some}
use Rattle.crash_disk.specs.Log.{Logged, steps, total, EndsSynced}
use Rattle.crash_disk.proofs.Logged.{total-push, popped, got_some, got_none, ended, write_within, one_less_of}
use Rattle.crash_disk.specs.declared.call.Call.{Call}
use Rattle.crash_disk.specs.declared.call.Call.TheVariants as call
use Rattle.std.specs.Prelude.{vec_len, slice_get}
use Rattle.crash_disk.proofs.log.Log.drop_write.Goals as goal

pub returns-in-None-clause-kept : goal.returns-in-None-clause-kept
returns-in-None-clause-kept c is =
    let value = c.deref.ensures.value in
    let none : c.self.inside.calls.items ≡ [] = sym value ∙ got_none c.deref.result.now c.in-None.ensures.value in
    (refl, inl (sym (ap (λ (l : Logged). l.steps) c.self.view_is) ∙ ap (λ (l : List Call). steps l c.self.inside.bytes.items) none))

pub returns-in-Some-Sync-clause-kept : goal.returns-in-Some-Sync-clause-kept
returns-in-Some-Sync-clause-kept c is =
    let bytes = c.self.inside.bytes.items in
    let got : Some call.Sync ≡ slice_get c.deref.result.now (length c.deref.result.now - 1) = ap (λ (z : Call). Some z) (sym c.in-Some-Sync.field-0-is) ∙ c.in-Some-Sync.ensures.value in
    (refl, subst EndsSynced (ap (λ (l : List Call). steps l bytes) c.deref.ensures.value ∙ ap (λ (l : Logged). l.steps) c.self.view_is) (ended c.deref.result.now bytes got))

pub overflow_sub-kept : goal.overflow_sub-kept
overflow_sub-kept c =
    let m = c.self.inside in
    let size : c.len.result ≡ length m.bytes.items = search rules in
    let got : Some (call.Write c.in-Some-Write.field-0-0 c.in-Some-Write.len) ≡ slice_get m.calls.items (length m.calls.items - 1) = ap (λ (z : Call). Some z) (sym c.in-Some-Write.field-0-is)
    ∙ c.in-Some-Write.ensures.value ∙ ap (λ (l : List Call). slice_get l (length l - 1)) c.deref.ensures.value in
    omega (arith, size, write_within m.calls.items m.bytes.items c.in-Some-Write.field-0-0 c.in-Some-Write.len c.self.invariant.counted got)

pub invariant_of-self : goal.invariant_of-self
invariant_of-self c =
    let m = c.self.inside in
    let i = c.self.invariant in
    let n = c.in-Some-Write.len in
    let at = c.in-Some-Write.field-0-0 in
    let size : c.len.result ≡ length m.bytes.items = search rules in
    let got : Some (call.Write at n) ≡ slice_get m.calls.items (length m.calls.items - 1) = ap (λ (z : Call). Some z) (sym c.in-Some-Write.field-0-is) ∙ c.in-Some-Write.ensures.value
    ∙ ap (λ (l : List Call). slice_get l (length l - 1)) c.deref.ensures.value in
    let low = got_some m.calls.items (length m.calls.items - 1) (call.Write at n) got in
    let long : length m.calls.items ≡ vec_len m.calls = sym (ap length c.deref.ensures.value) ∙ c.deref.ensures.len in
    let split = popped m.calls.items c.pop.new.self.items (length m.calls.items) (call.Write at n) refl (omega arith) got
    (c.pop.ensures.rest ∙ ap (λ (k : ℕ). take (k - 1) m.calls.items) (sym long)) in
    let within = write_within m.calls.items m.bytes.items at n i.counted got in
    let fewer : length c.truncate.new.self.items ≡ length m.bytes.items - n = search rules in
    record {
      counted = omega (arith, ap total split, total-push c.pop.new.self.items at n, i.counted, within, fewer);
      calls = omega (arith, i.calls, c.pop.ensures.capacity);
      bytes = omega (arith, i.bytes, c.truncate.ensures.capacity);
      reserved = λ is. let r = i.reserved is in (r.0, r.1, omega (arith, r.2, fewer));
    }

pub returns-in-Some-Write-clause-dropped : goal.returns-in-Some-Write-clause-dropped
returns-in-Some-Write-clause-dropped c is =
    let m = c.self.inside in
    let n = c.in-Some-Write.len in
    let at = c.in-Some-Write.field-0-0 in
    let size : c.len.result ≡ length m.bytes.items = search rules in
    let got : Some (call.Write at n) ≡ slice_get m.calls.items (length m.calls.items - 1) = ap (λ (z : Call). Some z) (sym c.in-Some-Write.field-0-is) ∙ c.in-Some-Write.ensures.value
    ∙ ap (λ (l : List Call). slice_get l (length l - 1)) c.deref.ensures.value in
    let low = got_some m.calls.items (length m.calls.items - 1) (call.Write at n) got in
    let long : length m.calls.items ≡ vec_len m.calls = sym (ap length c.deref.ensures.value) ∙ c.deref.ensures.len in
    let split = popped m.calls.items c.pop.new.self.items (length m.calls.items) (call.Write at n) refl (omega arith) got
    (c.pop.ensures.rest ∙ ap (λ (k : ℕ). take (k - 1) m.calls.items) (sym long)) in
    one_less_of m.calls.items c.pop.new.self.items m.bytes.items c.truncate.new.self.items at n c.args.self.now.steps split (c.truncate.ensures.items ∙ ap (λ (k : ℕ). take (k - n) m.bytes.items) size)
    c.self.invariant.counted (ap (λ (l : Logged). l.steps) c.self.view_is)
