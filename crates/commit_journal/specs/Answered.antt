-- What an answer of the engine does to a store on a disk.
use Rattle.std.specs.Prelude.{◌≡◌, ◌+◌, ◌*◌, ◌≤◌, ℕ, true, false, List, length, Some, Result, IfOk, IfErr, MatchResult}
use Rattle.teb_io.specs.Faults.{HasCause}
use Rattle.teb_rules.specs.declared.names.Session.{Session}
use Rattle.teb_rules.specs.declared.names.Request.{Request}
use Rattle.teb_rules.specs.declared.names.Reply.{Reply}
use Rattle.teb_rules.specs.declared.names.Reply.TheVariants.{Committed}
use Rattle.teb_rules.specs.declared.history.Event.{Event}
use Rattle.teb_rules.specs.Setup.{Store}
use Rattle.teb_rules.specs.Answer.{answer}
use Rattle.crash_disk.specs.Calls.{Tally, AreCalls}
use Rattle.crash_disk.specs.Sizes.{default_capacity}
use Rattle.crash_disk.specs.Disk.{LeavesOnly}
use Rattle.record_journal.specs.Format.{recovered, Whole}
use Rattle.record_journal.specs.Journal.{IsBody}
use Rattle.commit_laws.specs.Records.{records_of, record_of, puts_of}
use Rattle.commit_journal.specs.declared.error.DurableError.{DurableError}
use Rattle.commit_journal.specs.declared.error.DurableError.TheVariants.{DiskFault}
use Rattle.commit_journal.specs.Kept.{Kept, IsSameStore, committing}
use Rattle.commit_journal.specs.Whole.{HasFirst}

-- what the bytes are that were made for a request, before it was answered
abbrev pub IsBodyFor : Store → List Event → Session → Request → List ℕ → Type 0
IsBodyFor X H s r bytes = (t : ℕ) → committing H s r ≡ Some t → IsBody (record_of X.setup H t) bytes × (length bytes + 1 ≤ 6 + 14 * length (puts_of H t))

-- The answer commits what the session asked to commit, and its record went to the disk, in four calls up to the first that fails. It is
-- acknowledged, or the disk failed, and what was safe at the last good sync has the commits from before it alone.
pub record IsCommit {D : Type 0} (safe : D → List ℕ) (faults : D → ℕ) (tally : D → Tally)
    (old new : Kept D) (s : Session) (r : Request) (result : Result Reply DurableError) : Type 0 where
  pub answered : (answer old.store old.events s r).0 ≡ Committed
  pub txn : ℕ
  pub asked : committing old.events s r ≡ Some txn
  pub size : ℕ
  pub few : size ≤ 6 + 14 * length (puts_of old.events txn)
  pub ok : IfOk result (λ reply. (reply ≡ Committed) × (new.stopped ≡ false) × (new.acknowledged ≡ old.acknowledged + 1) × (new.end + 1 ≡ old.end + size))
  pub err : IfErr result (λ e. (e ≡ DiskFault) × (new.stopped ≡ true) × (new.acknowledged ≡ old.acknowledged)
      × (recovered default_capacity (safe new.disk) ≡ Whole (records_of old.store.setup old.events)))
  pub cause : HasCause (faults old.disk) (faults new.disk) result
  pub calls : AreCalls (tally old.disk).promise.writes 4 size (tally old.disk) (tally new.disk) result

-- the reply commits nobody, and nothing but the events is another; or the answer is a commit
pub data Effect {D : Type 0} (safe : D → List ℕ) (faults : D → ℕ) (tally : D → Tally)
    (old new : Kept D) (s : Session) (r : Request) (result : Result Reply DurableError) : Type 0 where
  told : MatchResult result (λ reply. reply ≡ Committed → ⊥) (λ _. ⊥) → new ≡ record old { events = new.events }
      → Effect safe faults tally old new s r result
  committed : IsCommit safe faults tally old new s r result → Effect safe faults tally old new s r result

-- A request was answered as the engine does. Whatever a crash leaves, at a moment of the call, has the records of the first commits: at
-- least of those that were acknowledged before.
pub record Answered {D : Type 0} (moment : D → ℕ) (left_since : D → ℕ → List ℕ → Type 0) (safe : D → List ℕ) (faults : D → ℕ) (tally : D → Tally)
    (old new : Kept D) (s : Session) (r : Request) (result : Result Reply DurableError) : Type 0 where
  pub store : IsSameStore old new
  pub events : new.events ≡ (answer old.store old.events s r).1
  pub reply : IfOk result (λ reply. reply ≡ (answer old.store old.events s r).0)
  pub any_moment : LeavesOnly moment left_since old.disk new.disk (HasFirst new.store new.events old.acknowledged)
  pub effect : Effect safe faults tally old new s r result
