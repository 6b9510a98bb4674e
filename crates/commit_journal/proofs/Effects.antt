-- The consequences of an answer's effect for a store on a disk.
use Rattle.std.proofs.Common.{◌≡◌, ◌+◌, ◌*◌, ◌^◌, ◌<◌, ◌≤◌, ℕ, false, true, List, length, Some, ap, subst, sym, ◌∙◌, arith, Result, Ok, Err}
use Rattle.std.specs.Prelude.{IfOk, IfErr, OnOk, IsErrOf}
use Rattle.teb_io.specs.Faults.{Rose}
use Rattle.teb_rules.specs.declared.names.Session.{Session}
use Rattle.teb_rules.specs.declared.names.Request.{Request}
use Rattle.teb_rules.specs.declared.names.Reply.{Reply}
use Rattle.teb_rules.specs.declared.names.Reply.TheVariants.{Committed}
use Rattle.teb_rules.specs.Answer.{answer}
use Rattle.crash_disk.specs.Calls.{Tally, AreSure, Fails, IsUpTo}
use Rattle.crash_disk.specs.Sizes.{default_capacity}
use Rattle.record_journal.specs.Format.{recovered, Whole}
use Rattle.commit_laws.specs.Records.{records_of, puts_of}
use Rattle.commit_journal.specs.declared.error.DurableError.{DurableError}
use Rattle.commit_journal.specs.declared.error.DurableError.TheVariants as errors
use Rattle.commit_journal.specs.Answered.{Effect, told, committed}
use Rattle.commit_journal.specs.Kept.{Kept, committing}
use Rattle.commit_journal.proofs.Asked.{same_txn, no_calls, fewer_bytes}

pub fewer_sure : (most k m n : ℕ) (t : Tally) → m ≤ n → AreSure most k n t → AreSure most k m t
fewer_sure most k m n t le sure = record { before = sure.before; promised = sure.promised; fits = omega (arith, le, sure.fits) }

module _ {D : Type 0} {safe : D → List ℕ} {faults : D → ℕ} {tally : D → Tally} {old new : Kept D} {s : Session} {r : Request} where
  pub acknowledges : (result : Result Reply DurableError) → Effect safe faults tally old new s r result
      → IfOk result (λ reply. reply ≡ Committed → new.acknowledged ≡ old.acknowledged + 1)
  acknowledges (Ok reply) (told other same) = λ is. absurd (other is)
  acknowledges (Ok reply) (committed c) = λ is. c.ok.2
  acknowledges (Err e) effect = tt

  pub acknowledges_none : (result : Result Reply DurableError) → Effect safe faults tally old new s r result
      → IfOk result (λ reply. (reply ≡ Committed → ⊥) → new.acknowledged ≡ old.acknowledged)
  acknowledges_none (Ok reply) (told other same) = λ is. ap (λ (o : Kept D). o.acknowledged) same
  acknowledges_none (Ok reply) (committed c) = λ is. absurd (is c.ok.0)
  acknowledges_none (Err e) effect = tt

  pub runs_on : (result : Result Reply DurableError) → Effect safe faults tally old new s r result
      → old.stopped ≡ false → OnOk result (new.stopped ≡ false)
  runs_on (Ok reply) (told other same) runs = ap (λ (o : Kept D). o.stopped) same ∙ runs
  runs_on (Ok reply) (committed c) runs = c.ok.1
  runs_on (Err e) effect runs = tt

  pub changes_at_fault : (result : Result Reply DurableError) → Effect safe faults tally old new s r result
      → IfErr result (λ e. (e ≡ errors.DiskFault → ⊥) → new ≡ old)
  changes_at_fault (Ok reply) effect = tt
  changes_at_fault (Err e) (told never same) = absurd never
  changes_at_fault (Err e) (committed c) = λ other. absurd (other c.err.0)

  pub fault_rose : (result : Result Reply DurableError) → Effect safe faults tally old new s r result
      → IsErrOf result errors.DiskFault → Rose (faults old.disk) (faults new.disk)
  fault_rose (Ok reply) effect is = absurd (cc)
  fault_rose (Err e) (told never same) is = absurd never
  fault_rose (Err e) (committed c) is = c.cause.failed

  pub fault_at_commit : (result : Result Reply DurableError) → Effect safe faults tally old new s r result
      → new.events ≡ (answer old.store old.events s r).1 → IsErrOf result errors.DiskFault
      → ((answer old.store old.events s r).0 ≡ Committed) × (new.events ≡ (answer old.store old.events s r).1) × (new.acknowledged ≡ old.acknowledged) × (new.stopped ≡ true)
  fault_at_commit (Ok reply) effect events is = absurd (cc)
  fault_at_commit (Err e) (told never same) events is = absurd never
  fault_at_commit (Err e) (committed c) events is = (c.answered, events, c.err.2, c.err.1)

  pub fault_adds_nothing : (result : Result Reply DurableError) → Effect safe faults tally old new s r result
      → IsErrOf result errors.DiskFault → recovered default_capacity (safe new.disk) ≡ Whole (records_of old.store.setup old.events)
  fault_adds_nothing (Ok reply) effect is = absurd (cc)
  fault_adds_nothing (Err e) (told never same) is = absurd never
  fault_adds_nothing (Err e) (committed c) is = c.err.3

  pub touches_none : (result : Result Reply DurableError) → Effect safe faults tally old new s r result
      → IfOk result (λ reply. (reply ≡ Committed → ⊥) → new.disk ≡ old.disk)
  touches_none (Ok reply) (told other same) = λ is. ap (λ (o : Kept D). o.disk) same
  touches_none (Ok reply) (committed c) = λ is. absurd (is c.ok.0)
  touches_none (Err e) effect = tt

  pub makes_four : (result : Result Reply DurableError) → Effect safe faults tally old new s r result
      → IfOk result (λ reply. reply ≡ Committed → (tally old.disk).made + 4 < 2 ^ 64 → (tally new.disk).made ≡ (tally old.disk).made + 4)
  makes_four (Ok reply) (told other same) = λ is. absurd (other is)
  makes_four (Ok reply) (committed c) = λ is. c.calls.all
  makes_four (Err e) effect = tt

  pub writes_one_more : (result : Result Reply DurableError) → Effect safe faults tally old new s r result
      → IfOk result (λ reply. (tally new.disk).written + old.end ≤ (tally old.disk).written + new.end + 1)
  writes_one_more (Ok reply) (told other same) = omega (arith, ap (λ (o : Kept D). (tally o.disk).written) same, ap (λ (o : Kept D). o.end) same)
  writes_one_more (Ok reply) (committed c) = omega (arith, c.calls.up_to.written, c.ok.3)
  writes_one_more (Err e) effect = tt

  pub makes_few : (result : Result Reply DurableError) → Effect safe faults tally old new s r result
      → (t : ℕ) → committing old.events s r ≡ Some t
      → IsUpTo 4 (6 + 14 * length (puts_of old.events t)) (tally old.disk) (tally new.disk)
  makes_few result (told other same) t asked = no_calls _ _ _ _ (ap (λ (o : Kept D). tally o.disk) same)
  makes_few result (committed c) t asked =
      subst (λ (u : ℕ). IsUpTo 4 (6 + 14 * length (puts_of old.events u)) (tally old.disk) (tally new.disk))
      (same_txn _ c.txn t c.asked asked) (fewer_bytes _ _ _ _ _ c.few c.calls.up_to)

  pub never_at_fault : (result : Result Reply DurableError) → Effect safe faults tally old new s r result
      → (t : ℕ) → committing old.events s r ≡ Some t
      → AreSure (tally old.disk).promise.writes 4 (6 + 14 * length (puts_of old.events t)) (tally old.disk) → IsErrOf result errors.DiskFault → ⊥
  never_at_fault (Ok reply) effect t asked sure is = absurd (cc)
  never_at_fault (Err e) (told never same) t asked sure is = never
  never_at_fault (Err e) (committed c) t asked sure is =
      go (c.calls.sure (fewer_sure _ _ _ _ _ c.few
      (subst (λ (u : ℕ). AreSure (tally old.disk).promise.writes 4 (6 + 14 * length (puts_of old.events u)) (tally old.disk))
      (same_txn _ t c.txn asked c.asked) sure)))
    where
      go : false ≡ true → ⊥
      go e = absurd (cc)

  pub fails_at_commit : (result : Result Reply DurableError) → Effect safe faults tally old new s r result
      → Fails 4 (tally old.disk) → IfOk result (λ reply. reply ≡ Committed → ⊥)
  fails_at_commit (Ok reply) (told other same) fails = other
  fails_at_commit (Ok reply) (committed c) fails = go (c.calls.fails fails)
    where
      go : false ≡ true → reply ≡ Committed → ⊥
      go e = absurd (cc)
  fails_at_commit (Err e) effect fails = tt
