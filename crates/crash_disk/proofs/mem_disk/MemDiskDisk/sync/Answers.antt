use Rattle.std.proofs.Common.{◌∷◌, [], ◌∙◌, refl, sym, ap, arith, length, length-append}
use Rattle.crash_disk.specs.Log.{Logged, Synced, contents, byte_count}
use Rattle.crash_disk.proofs.Logged.{safe_sync, sync_same, sync_only, sync_crash, count-sync}
use Rattle.crash_disk.proofs.Groups.{call_ok}
use Rattle.crash_disk.proofs.Spares.{uses_none}
use Rattle.crash_disk.proofs.mem_disk.MemDiskDisk.sync.Goals as goal

pub invariant_of-self : goal.invariant_of-self
invariant_of-self c =
    let m = c.args.self.now in
    record { within = m.within; some = m.some; small = m.small; told = m.told; made = λ is. omega (arith, m.made is, c.call.ensures.kept); reserved = m.reserved }

pub invariant_of-self-in-Ok : goal.invariant_of-self-in-Ok
invariant_of-self-in-Ok c =
    let m = c.args.self.now in
    let added = c.in-Ok.ensures.added in
    let steps = ap (λ (l : Logged). l.steps) added in
    let room = ap (λ (l : Logged). l.room) added in
    record {
      within = m.within;
      some = m.some;
      small = m.small;
      told = sync_same m.log.steps c.sync.new.self.steps steps ∙ m.told;
      made = λ is. omega (arith, m.made (sym room ∙ is), c.call.ensures.made, c.in-Ok.ensures.within (sym room ∙ is), ap length steps, length-append m.log.steps (Synced ∷ []));
      reserved = λ is. m.reserved (sym room ∙ is);
    }

pub invariant_of-self-in-Err : goal.invariant_of-self-in-Err
invariant_of-self-in-Err c =
    let m = c.args.self.now in
    let same = c.in-Err.ensures.same in
    let room = ap (λ (l : Logged). l.room) same in
    record {
      within = m.within;
      some = m.some;
      small = m.small;
      told = ap (λ (l : Logged). contents l.steps) same ∙ m.told;
      made = λ is. omega (arith, m.made (sym room ∙ is), c.call.ensures.kept, ap (λ (l : Logged). length l.steps) same, c.refuse.ensures.made);
      reserved = λ is. m.reserved (sym room ∙ is);
    }

pub returns-in-Ok-clause-durable : goal.returns-in-Ok-clause-durable
returns-in-Ok-clause-durable c = sync_only c.args.self.now.log.steps c.sync.new.self.steps (ap (λ (l : Logged). l.steps) c.in-Ok.ensures.added)

pub returns-in-Ok-clause-crash : goal.returns-in-Ok-clause-crash
returns-in-Ok-clause-crash c = sync_crash c.args.self.now.log.steps c.sync.new.self.steps (ap (λ (l : Logged). l.steps) c.in-Ok.ensures.added)

pub returns-in-Ok-clause-safe : goal.returns-in-Ok-clause-safe
returns-in-Ok-clause-safe c = safe_sync c.args.self.now.log.steps c.sync.new.self.steps (ap (λ (l : Logged). l.steps) c.in-Ok.ensures.added)

pub returns-in-Ok-clause-calls : goal.returns-in-Ok-clause-calls
returns-in-Ok-clause-calls c =
    let m = c.args.self.now in
    let added = c.in-Ok.ensures.added in
    call_ok _ m.counter.made c.call.new.self.made (byte_count m.log.steps) (byte_count c.sync.new.self.steps) m.counter.stop c.call.new.self.stop 0 m.log.room c.sync.new.self.room _
    (ap (λ (l : Logged). l.room) added) c.call.ensures.made c.call.ensures.stop (omega (arith, ap (λ (l : Logged). byte_count l.steps) added, count-sync m.log.steps))
    (λ f. absurd (cc (c.in_ok-call.ensures.stopped f)))

pub returns-in_err-call-clause-memory : goal.returns-in_err-call-clause-memory
returns-in_err-call-clause-memory c = uses_none _ _ _ _ _ _ _ refl c.call.ensures.no_refusal

pub returns-in-Ok-clause-memory : goal.returns-in-Ok-clause-memory
returns-in-Ok-clause-memory c =
    let m = c.args.self.now in
    let added = c.in-Ok.ensures.added in
    record {
      calls = omega (arith, ap (λ (l : Logged). l.sure_calls) added, ap (λ (l : Logged). length l.steps) added, length-append m.log.steps (Synced ∷ []));
      bytes = omega (arith, ap (λ (l : Logged). l.sure_bytes) added, ap (λ (l : Logged). byte_count l.steps) added, count-sync m.log.steps);
      stays = omega arith;
      enough = λ s. c.call.ensures.no_refusal;
    }

pub returns-in-Err-clause-memory : goal.returns-in-Err-clause-memory
returns-in-Err-clause-memory c =
    let m = c.args.self.now in
    let same = c.in-Err.ensures.same in
    record {
      calls = omega (arith, ap (λ (l : Logged). l.sure_calls) same, ap (λ (l : Logged). length l.steps) same);
      bytes = omega (arith, ap (λ (l : Logged). l.sure_bytes) same, ap (λ (l : Logged). byte_count l.steps) same);
      stays = omega arith;
      enough = λ s. absurd (cc (c.in-Err.ensures.covered (omega (arith, s.calls))));
    }
