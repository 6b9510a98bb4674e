-- The two sides of a store: what its journal keeps, and the commits that wait.
use Rattle.std.proofs.Common.{◌≡◌, ◌+◌, ℕ, List, [], ◌++◌, length, Err, refl, sym, ◌∙◌, ap, subst, arith, length-append}
use Rattle.std.specs.Prelude.{IsErrOf}
use Rattle.std.proofs.lemmas.List.{append-nil}
use Rattle.teb_rules.specs.names.Rows.{row_of}
use Rattle.teb_rules.specs.declared.history.Event.{Event}
use Rattle.teb_rules.specs.Setup.{Store}
use Rattle.teb_rules.specs.Replay.{Values}
use Rattle.record_journal.specs.Format.{Record}
use Rattle.crash_disk.specs.Disk.{LeavesOnly}
use Rattle.commit_laws.specs.Commits.{commit_count}
use Rattle.commit_laws.specs.Records.{records_of}
use Rattle.commit_laws.proofs.Prefixes.{length-records}
use Rattle.epoch_journal.specs.State.{JournalState}
use Rattle.epoch_journal.specs.Telling.{TellsOn}
use Rattle.epoch_journal.specs.Kept.{Keeps}
use Rattle.epoch_store.specs.declared.error.WriteError.{WriteError}
use Rattle.epoch_store.specs.declared.error.WriteError.TheVariants.{Full, DiskFault, OutOfMemory}
use Rattle.engine_store.specs.Halves.{AreCommitsSince, KeepsCommits}
use Rattle.engine_store.specs.Telling.{TellsCommits}

-- the store is the same
pub since_same : (X Z : Store) (H G : List Event) (rs : List Record) → Z ≡ X → records_of Z.setup G ≡ records_of X.setup H ++ rs → AreCommitsSince Z H G rs
since_same X Z H G rs same is = is ∙ ap (λ (Y : Store). records_of Y.setup H ++ rs) (sym same)

-- there are no commits since this history
pub none_since : (X : Store) (H : List Event) (rs : List Record) → rs ≡ [] → AreCommitsSince X H H rs
none_since X H rs none = sym (append-nil (records_of X.setup H)) ∙ ap (λ (qs : List Record). records_of X.setup H ++ qs) (sym none)

count_since : (X : Store) (H G : List Event) (rs : List Record) → AreCommitsSince X H G rs → commit_count G ≡ commit_count H + length rs
count_since X H G rs since = omega (arith, length-records X.setup G, length-records X.setup H, ap length since, length-append (records_of X.setup H) rs)

module _ {D : Type 0} (seen : D → List ℕ) (may_leave : D → List ℕ → Type 0) where
  -- all waiting commits were written
  pub written : (X : Store) (H G : List Event) (rs : List Record) (old new : JournalState D) → AreCommitsSince X H G rs → KeepsCommits seen may_leave X H (commit_count H) old
      → Keeps seen may_leave (row_of X.rows) (records_of X.setup H ++ rs) (commit_count H + length rs) new → new.acknowledged ≡ old.acknowledged + length rs
      → KeepsCommits seen may_leave X G (commit_count G) new
  written X H G rs old new since was keeps count =
      let all = count_since X H G rs since in
      record {
        keeps = subst (λ (x : List Record × ℕ). Keeps seen may_leave (row_of X.rows) x.0 x.1 new) (λ i. (sym since i, sym all i)) keeps;
        acknowledged = omega (arith, count, was.acknowledged, all);
      }

  -- the disk failed, or was not called
  pub not_written : (why : WriteError) (X : Store) (H G : List Event) (n : ℕ) (rs : List Record) (old mid new : JournalState D) → AreCommitsSince X H G rs → KeepsCommits seen may_leave X H n old
      → (IsErrOf {T = Unit {0}} (Err why) DiskFault → Keeps seen may_leave (row_of X.rows) (records_of X.setup H ++ rs) n mid × (mid.acknowledged ≡ old.acknowledged))
      → ((why ≡ DiskFault → ⊥) → mid ≡ old)
      → ((start : Values) (all more : List Record) (least : ℕ) → Keeps seen may_leave start all least mid → Keeps seen may_leave start (all ++ more) least new) → new.acknowledged ≡ mid.acknowledged
      → KeepsCommits seen may_leave X G n new
  not_written why X H G n rs old mid new since was fault other stop count = go why fault other
    where
      given : Keeps seen may_leave (row_of X.rows) (records_of X.setup H ++ rs) n new → mid.acknowledged ≡ old.acknowledged → KeepsCommits seen may_leave X G n new
      given keeps same = record {
        keeps = subst (λ (qs : List Record). Keeps seen may_leave (row_of X.rows) qs n new) (sym since) keeps;
        acknowledged = count ∙ same ∙ was.acknowledged;
      }

      unasked : mid ≡ old → KeepsCommits seen may_leave X G n new
      unasked same =
          given (stop (row_of X.rows) (records_of X.setup H) rs n (subst (λ (j : JournalState D). Keeps seen may_leave (row_of X.rows) (records_of X.setup H) n j) (sym same) was.keeps))
          (ap (λ (j : JournalState D). j.acknowledged) same)

      go : (why : WriteError) → (IsErrOf {T = Unit {0}} (Err why) DiskFault → Keeps seen may_leave (row_of X.rows) (records_of X.setup H ++ rs) n mid × (mid.acknowledged ≡ old.acknowledged))
          → ((why ≡ DiskFault → ⊥) → mid ≡ old) → KeepsCommits seen may_leave X G n new
      go Full fault other = unasked (other (λ is. absurd (cc is)))
      go OutOfMemory fault other = unasked (other (λ is. absurd (cc is)))
      go DiskFault fault other =
          let failed = fault refl in
          given (subst (λ (qs : List Record). Keeps seen may_leave (row_of X.rows) qs n new) (append-nil (records_of X.setup H ++ rs))
          (stop (row_of X.rows) (records_of X.setup H ++ rs) [] n failed.0)) failed.1

  -- an epoch begins
  pub begins_empty : (X Z : Store) (j : JournalState D) → Z ≡ X → Keeps seen may_leave (row_of X.rows) [] 0 j → j.acknowledged ≡ 0 → KeepsCommits seen may_leave Z [] 0 j
  unfolding records_of
  begins_empty X Z j same keeps count = record { keeps = subst (λ (Y : Store). Keeps seen may_leave (row_of Y.rows) [] 0 j) (sym same) keeps; acknowledged = count }

  -- an epoch continues
  pub keeps_on : (X : Store) (H : List Event) (n : ℕ) (old new : JournalState D) → KeepsCommits seen may_leave X H n old → Keeps seen may_leave (row_of X.rows) (records_of X.setup H) n new
      → new.acknowledged ≡ old.acknowledged
      → KeepsCommits seen may_leave X H n new
  keeps_on X H n old new was keeps same = record { keeps = keeps; acknowledged = same ∙ was.acknowledged }

-- a crash at any moment
module _ {D : Type 0} (moment : D → ℕ) (left_since : D → ℕ → List ℕ → Type 0) where
  pub written_moment : (X : Store) (H G : List Event) (n : ℕ) (rs : List Record) (old mid new : JournalState D) → AreCommitsSince X H G rs → new.disk ≡ mid.disk
      → LeavesOnly moment left_since old.disk mid.disk (TellsOn old.layout (row_of X.rows) (records_of X.setup H ++ rs) n)
      → LeavesOnly moment left_since old.disk new.disk (TellsCommits old.layout X G n)
  written_moment X H G n rs old mid new since same leaves =
      subst (λ (x : List Record × D). LeavesOnly moment left_since old.disk x.1 (TellsOn old.layout (row_of X.rows) x.0 n)) (λ i. (sym since i, sym same i)) leaves
