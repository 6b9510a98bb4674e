-- What a request to a store on a disk comes to.
use Rattle.std.specs.Prelude.{◌≡◌, ◌+◌, ◌*◌, ◌-◌, ◌^◌, ◌<◌, ◌≤◌, ℕ, true, false, List, length, Some, Result, IfOk, OnOk, IsErrOf}
use Rattle.teb_io.specs.Faults.{Rose}
use Rattle.teb_rules.specs.declared.names.Session.{Session}
use Rattle.teb_rules.specs.declared.names.Request.{Request}
use Rattle.teb_rules.specs.declared.names.Reply.{Reply}
use Rattle.teb_rules.specs.declared.names.Reply.TheVariants.{Committed}
use Rattle.teb_rules.specs.Answer.{answer}
use Rattle.crash_disk.specs.Calls.{Tally, AreSure, Fails, IsUpTo}
use Rattle.crash_disk.specs.Sizes.{default_capacity}
use Rattle.record_journal.specs.Format.{records, recovered, room_of, Whole}
use Rattle.commit_laws.specs.Commits.{commit_count}
use Rattle.commit_laws.specs.Records.{records_of, puts_of}
use Rattle.commit_journal.specs.declared.error.DurableError.{DurableError}
use Rattle.commit_journal.specs.declared.error.DurableError.TheVariants.{Stopped, Full, DiskFault}
use Rattle.commit_journal.specs.Kept.{Kept, IsFull, committing}

-- The count rises by one if a commit is answered. As long as the disk has not failed, all commits are counted, and the journal ends after their
-- records.
pub record Acknowledges {D : Type 0} (old new : Kept D) (result : Result Reply DurableError) : Type 0 where
  pub one : IfOk result (λ reply. reply ≡ Committed → new.acknowledged ≡ old.acknowledged + 1)
  pub others : IfOk result (λ reply. (reply ≡ Committed → ⊥) → new.acknowledged ≡ old.acknowledged)
  pub all : new.stopped ≡ false → new.acknowledged ≡ commit_count new.events
  pub end : new.stopped ≡ false → new.end ≡ length (records (records_of new.store.setup new.events))

-- the request would commit what the disk may not hold after the end of the journal
abbrev pub HasNoRoom : {D : Type 0} → (D → ℕ) → Kept D → Session → Request → Type 0
HasNoRoom capacity k s r = IsFull k.events (room_of (capacity k.disk) - k.end) s r

-- nothing is asked of a store that is stopped, or that has no room
pub record RefusesOnly {D : Type 0} (capacity : D → ℕ) (old : Kept D) (s : Session) (r : Request) (result : Result Reply DurableError) : Type 0 where
  pub stopped : IsErrOf result Stopped → old.stopped ≡ true
  pub stays : old.stopped ≡ true → IsErrOf result Stopped
  pub full : IsErrOf result Full → HasNoRoom capacity old s r
  pub fits : OnOk result (HasNoRoom capacity old s r → ⊥)
  pub not_full : IsErrOf result DiskFault → HasNoRoom capacity old s r → ⊥

-- The disk failed at a commit, and may have it or not. What was safe at the last good sync has only the earlier commits.
pub record FailsAtCommit {D : Type 0} (safe : D → List ℕ) (faults : D → ℕ) (old new : Kept D) (s : Session) (r : Request) : Type 0 where
  pub cause : Rose (faults old.disk) (faults new.disk)
  pub commits : (answer old.store old.events s r).0 ≡ Committed
  pub events : new.events ≡ (answer old.store old.events s r).1
  pub acknowledged : new.acknowledged ≡ old.acknowledged
  pub stopped : new.stopped ≡ true
  pub not_added : recovered default_capacity (safe new.disk) ≡ Whole (records_of old.store.setup old.events)

-- A commit makes four calls of the disk, up to the first that fails, and writes one byte more than the journal grows. No other request makes a call
-- of the disk.
pub record MakesCalls {D : Type 0} (tally : D → Tally) (old new : Kept D) (s : Session) (r : Request) (result : Result Reply DurableError) : Type 0 where
  pub untouched : IfOk result (λ reply. (reply ≡ Committed → ⊥) → new.disk ≡ old.disk)
  pub counted : IfOk result (λ reply. reply ≡ Committed → (tally old.disk).made + 4 < 2 ^ 64 → (tally new.disk).made ≡ (tally old.disk).made + 4)
  pub written : IfOk result (λ reply. (tally new.disk).written + old.end ≤ (tally old.disk).written + new.end + 1)
  pub up_to : (t : ℕ) → committing old.events s r ≡ Some t → IsUpTo 4 (6 + 14 * length (puts_of old.events t)) (tally old.disk) (tally new.disk)
  pub sure : (t : ℕ) → committing old.events s r ≡ Some t → AreSure (tally old.disk).promise.writes 4 (6 + 14 * length (puts_of old.events t)) (tally old.disk)
      → IsErrOf result DiskFault → ⊥
  pub fails : Fails 4 (tally old.disk) → IfOk result (λ reply. reply ≡ Committed → ⊥)
