use Rattle.std.proofs.Common.{◌∷◌, [], ◌∙◌, refl, sym, ap, arith, length, length-append}
use Rattle.crash_disk.specs.Log.{Logged, Wrote, byte_count}
use Rattle.crash_disk.proofs.Logged.{elapses_to, safe_write, told_write, torn_write, holds_write, write_crash, length-written, count-push}
use Rattle.crash_disk.proofs.Groups.{call_ok}
use Rattle.crash_disk.proofs.Spares.{uses_none}
use Rattle.crash_disk.proofs.mem_disk.MemDiskDisk.write_at.Goals as goal

pub invariant_of-self-in-Ok : goal.invariant_of-self-in-Ok
invariant_of-self-in-Ok c =
    let m = c.args.self.now in
    let at = c.args.at in
    let piece = c.args.bytes.now in
    let steps = ap (λ (l : Logged). l.steps) c.in-Ok.ensures.log in
    let room = ap (λ (l : Logged). l.room) c.in-Ok.ensures.log in
    let image = c.in-Ok.ensures.image in
    record {
      within = omega (arith, ap length image, length-written at piece m.image.items, m.within, c.requires);
      some = m.some;
      small = m.small;
      told = told_write m.log.steps c.write.new.log.steps at m.image.items c.write.new.image.items piece steps m.told image;
      made = λ is. omega (arith, m.made (sym room ∙ is), c.call.ensures.made, c.in-Ok.ensures.within (sym room ∙ is), ap length steps, length-append m.log.steps (Wrote at piece ∷ []));
      reserved = λ is. omega (arith, m.reserved (sym room ∙ is), c.write.ensures.capacity);
    }

pub returns-in-Ok-clause-written : goal.returns-in-Ok-clause-written
returns-in-Ok-clause-written c = holds_write c.args.self.now.log.steps c.write.new.log.steps c.args.at c.args.bytes.now (ap (λ (l : Logged). l.steps) c.in-Ok.ensures.log)

pub returns-in-Ok-clause-torn : goal.returns-in-Ok-clause-torn
returns-in-Ok-clause-torn c = torn_write c.args.self.now.log.steps c.write.new.log.steps c.args.at c.args.bytes.now (ap (λ (l : Logged). l.steps) c.in-Ok.ensures.log)

pub returns-in-Ok-clause-crash : goal.returns-in-Ok-clause-crash
returns-in-Ok-clause-crash c =
    let added = ap (λ (l : Logged). l.steps) c.in-Ok.ensures.log in
    write_crash c.args.self.now.log.steps c.write.new.log.steps c.args.at c.args.bytes.now added (torn_write c.args.self.now.log.steps c.write.new.log.steps c.args.at c.args.bytes.now added)

pub returns-in-Ok-clause-time : goal.returns-in-Ok-clause-time
returns-in-Ok-clause-time c = elapses_to c.args.self.now.log.steps c.write.new.log.steps (Wrote c.args.at c.args.bytes.now) (ap (λ (l : Logged). l.steps) c.in-Ok.ensures.log)

pub returns-in-Ok-clause-safe : goal.returns-in-Ok-clause-safe
returns-in-Ok-clause-safe c = safe_write c.args.self.now.log.steps c.write.new.log.steps c.args.at c.args.bytes.now (ap (λ (l : Logged). l.steps) c.in-Ok.ensures.log)

pub returns-in-Ok-clause-calls : goal.returns-in-Ok-clause-calls
returns-in-Ok-clause-calls c =
    let m = c.args.self.now in
    let piece = c.args.bytes.now in
    let added = c.in-Ok.ensures.log in
    call_ok _ m.counter.made c.call.new.self.made (byte_count m.log.steps) (byte_count c.write.new.log.steps) m.counter.stop c.call.new.self.stop (length piece) m.log.room c.write.new.log.room _
    (ap (λ (l : Logged). l.room) added) c.call.ensures.made c.call.ensures.stop (omega (arith, ap (λ (l : Logged). byte_count l.steps) added, count-push m.log.steps c.args.at piece))
    (λ f. absurd (cc (c.in_ok-call.ensures.stopped f)))

pub returns-in_err-call-clause-memory : goal.returns-in_err-call-clause-memory
returns-in_err-call-clause-memory c = uses_none _ _ _ _ _ _ _ refl c.call.ensures.no_refusal

pub returns-in-Ok-clause-memory : goal.returns-in-Ok-clause-memory
returns-in-Ok-clause-memory c =
    let m = c.args.self.now in
    let piece = c.args.bytes.now in
    let added = c.in-Ok.ensures.log in
    record {
      calls = omega (arith, ap (λ (l : Logged). l.sure_calls) added, ap (λ (l : Logged). length l.steps) added, length-append m.log.steps (Wrote c.args.at piece ∷ []));
      bytes = omega (arith, ap (λ (l : Logged). l.sure_bytes) added, ap (λ (l : Logged). byte_count l.steps) added, count-push m.log.steps c.args.at piece);
      stays = c.write.ensures.capacity;
      enough = λ s. c.call.ensures.no_refusal;
    }

pub returns-in-Err-clause-memory : goal.returns-in-Err-clause-memory
returns-in-Err-clause-memory c =
    let m = c.args.self.now in
    let same = c.in-Err.ensures.same.1 in
    record {
      calls = omega (arith, ap (λ (l : Logged). l.sure_calls) same, ap (λ (l : Logged). length l.steps) same);
      bytes = omega (arith, ap (λ (l : Logged). l.sure_bytes) same, ap (λ (l : Logged). byte_count l.steps) same);
      stays = c.write.ensures.capacity;
      enough = λ s. absurd (cc (c.in-Err.ensures.covered (omega (arith, s.within)) (omega (arith, s.calls)) (omega (arith, s.bytes))));
    }
