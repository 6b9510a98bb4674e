-- A disk that is handed back.
use Rattle.std.proofs.Common.{◌≡◌, ◌⊎◌, inl, inr, ⊎_elim, ℕ, ◌+◌, ◌*◌, ◌<◌, ◌≤◌, List, length, refl, sym, ◌∙◌, ap, subst, arith}
use Rattle.teb_rules.specs.names.Rows.{row_of}
use Rattle.teb_rules.specs.Replay.{Values}
use Rattle.teb_io.specs.Faults.{Rose}
use Rattle.crash_disk.specs.Disk.{IsQuiet, LeavesOnly}
use Rattle.record_journal.specs.Format.{Record}
use Rattle.record_journal.proofs.Moments.{started, weaker}
use Rattle.epoch_journal.specs.declared.error.OpenError.{OpenError as JournalError}
use Rattle.epoch_journal.specs.declared.error.OpenError.TheVariants as journal
use Rattle.epoch_journal.specs.Layout.{Layout, half_size}
use Rattle.epoch_journal.specs.Telling.{IsBegun, Tells, TellsOn}
use Rattle.epoch_journal.specs.State.{RecoveredState}
use Rattle.epoch_journal.specs.Kept.{HasFound}
use Rattle.epoch_journal.specs.Read.{HasOtherCapacity, HasOtherLabel, IsDamaged, half_found_at}
use Rattle.epoch_journal.proofs.Moments.{and_then}
use Rattle.engine_store.specs.declared.open_error.OpenError.{OpenError}
use Rattle.engine_store.specs.declared.open_error.OpenError.TheVariants as store
use Rattle.engine_store.specs.Opening.{AllTellOn, HasRowOutside, IsRefused}
use Rattle.engine_store.specs.OpeningErrors.{as_open}
use Rattle.engine_store.specs.OpeningSteps.{IsRecovered}
use Rattle.engine_store.proofs.Errors.{was_damaged, was_capacity, was_label, was_full, was_fault}

rose_later : (a b c : ℕ) → a ≤ b → Rose b c → Rose a c
rose_later a b c later rose = omega (arith, later, rose)

module _ {D : Type 0} (seen : D → List ℕ) (may_leave : D → List ℕ → Type 0) (moment : D → ℕ) (left_since : D → ℕ → List ℕ → Type 0) (faults capacity : D → ℕ) where
  -- no call was made to the disk
  pub untouched : (disk : D) → ((c : List ℕ) → left_since disk (moment disk) c → may_leave disk c) → IsQuiet seen may_leave moment left_since faults capacity disk disk
  untouched disk now = record {
    same = refl;
    crash = λ c left. left;
    any_moment = started moment left_since disk (may_leave disk) now;
    later = omega arith;
    stays = refl;
  }

  quiet_moment : (disk back : D) (P : List ℕ → Type 0) → IsQuiet seen may_leave moment left_since faults capacity disk back → ((c : List ℕ) → may_leave disk c → P c)
      → LeavesOnly moment left_since disk back P
  quiet_moment disk back P quiet all = weaker moment left_since disk back (may_leave disk) P all quiet.any_moment

  pub no_memory : (l : Layout) (start : Values) (tables : ℕ) (disk back : D) → IsQuiet seen may_leave moment left_since faults capacity disk back
      → IsRefused seen may_leave moment left_since faults capacity l start tables disk back store.OutOfMemory
  no_memory l start tables disk back quiet = record {
    damaged = λ at is. absurd (cc is);
    other_capacity = λ is. absurd (cc is);
    other_tables = λ is. absurd (cc is);
    full = λ is. absurd (cc is);
    not_full = λ first all least tell is. cc is;
    fault = λ is. absurd (cc is);
    unwritten = λ other. quiet;
    any_moment = λ all least tell. quiet_moment disk back (Tells l start all least) quiet tell;
    any_moment_on = λ first all least tell. quiet_moment disk back (TellsOn l first all least) quiet tell;
  }

  -- the journal was not read
  pub not_read : (l : Layout) (start : Values) (tables : ℕ) (disk back : D) (e : JournalError)
      → ((at : ℕ) → e ≡ journal.Damaged at → IsDamaged l at (seen disk))
      → (e ≡ journal.OtherCapacity → HasOtherCapacity l (seen disk))
      → (e ≡ journal.OtherLabel → HasOtherLabel l (seen disk))
      → (e ≡ journal.Full → half_size l.capacity < 10 + length l.label)
      → ((first : Values) (all : List Record) (least : ℕ) → AllTellOn may_leave l first all least disk → e ≡ journal.Full → ⊥)
      → (e ≡ journal.DiskFault → Rose (faults disk) (faults back))
      → IsQuiet seen may_leave moment left_since faults capacity disk back
      → IsRefused seen may_leave moment left_since faults capacity l start tables disk back (as_open e)
  not_read l start tables disk back e damaged capacity_is label_is full not_full fault quiet = record {
    damaged = λ at is. inl (damaged at (was_damaged e at is));
    other_capacity = λ is. capacity_is (was_capacity e is);
    other_tables = λ is. label_is (was_label e is);
    full = λ is. inl (full (was_full e is));
    not_full = λ first all least tell is. not_full first all least tell (was_full e is);
    fault = λ is. fault (was_fault e is);
    unwritten = λ other. quiet;
    any_moment = λ all least tell. quiet_moment disk back (Tells l start all least) quiet tell;
    any_moment_on = λ first all least tell. quiet_moment disk back (TellsOn l first all least) quiet tell;
  }

  module _ (l : Layout) (start : Values) (tables : ℕ) (disk : D) (d : RecoveredState D) (was : IsRecovered seen may_leave moment left_since faults capacity l start disk d) where
    quiet_to : (back : D) → back ≡ d.disk → IsQuiet seen may_leave moment left_since faults capacity disk back
    quiet_to back same = subst (λ (x : D). IsQuiet seen may_leave moment left_since faults capacity disk x) (sym same) was.quiet

    -- the disk has a row of another table
    pub foreign : (back : D) (why : OpenError) → back ≡ d.disk → HasRowOutside tables (row_of d.rows) → why ≡ store.Damaged (half_found_at d.layout.capacity d.current)
        → IsRefused seen may_leave moment left_since faults capacity l start tables disk back why
    foreign back why same out because =
        let quiet = quiet_to back same in
        record {
          damaged = λ at is.
              let place : half_found_at d.layout.capacity d.current ≡ at = cc (because, is) in
              inr (record {
                T = row_of d.rows;
                has = was.has;
                foreign = out;
                current = d.current;
                is_current = was.current;
                place = sym place ∙ ap (λ (m : Layout). half_found_at m.capacity d.current) was.layout;
              });
          other_capacity = λ is. absurd (cc (because, is));
          other_tables = λ is. absurd (cc (because, is));
          full = λ is. absurd (cc (because, is));
          not_full = λ first all least tell is. cc (because, is);
          fault = λ is. absurd (cc (because, is));
          unwritten = λ other. quiet;
          any_moment = λ all least tell. quiet_moment disk back (Tells l start all least) quiet tell;
          any_moment_on = λ first all least tell. quiet_moment disk back (TellsOn l first all least) quiet tell;
        }

    too_many : (back : D) → back ≡ d.disk → half_size d.layout.capacity < 10 + length d.layout.label + 14 * length d.rows
        → ((first : Values) (all : List Record) (least k : ℕ) → (found : HasFound seen may_leave first all least k d) → IsBegun found.list → ⊥)
        → IsRefused seen may_leave moment left_since faults capacity l start tables disk back store.Full
    too_many back same many not_full =
        let quiet = quiet_to back same in
        record {
          damaged = λ at is. absurd (cc is);
          other_capacity = λ is. absurd (cc is);
          other_tables = λ is. absurd (cc is);
          full = λ is. inr (record {
            rows = d.rows;
            ascending = was.ascending;
            has = was.has;
            many = subst (λ (m : Layout). half_size m.capacity < 10 + length m.label + 14 * length d.rows) was.layout many;
          });
          not_full = λ first all least tell is. let found = was.found_on first all least tell in not_full first all least found.0 found.1 found.2;
          fault = λ is. absurd (cc is);
          unwritten = λ other. quiet;
          any_moment = λ all least tell. quiet_moment disk back (Tells l start all least) quiet tell;
          any_moment_on = λ first all least tell. quiet_moment disk back (TellsOn l first all least) quiet tell;
        }

    faulted : (back : D) → Rose (faults d.disk) (faults back)
        → ((first : Values) (all : List Record) (least k : ℕ) → HasFound seen may_leave first all least k d → LeavesOnly moment left_since d.disk back (Tells d.layout first all least))
        → ((first : Values) (all : List Record) (least k : ℕ) → (found : HasFound seen may_leave first all least k d) → IsBegun found.list
        → LeavesOnly moment left_since d.disk back (TellsOn d.layout first all least))
        → IsRefused seen may_leave moment left_since faults capacity l start tables disk back store.DiskFault
    faulted back rose tells tells_on = record {
      damaged = λ at is. absurd (cc is);
      other_capacity = λ is. absurd (cc is);
      other_tables = λ is. absurd (cc is);
      full = λ is. absurd (cc is);
      not_full = λ first all least tell is. cc is;
      fault = λ is. rose_later (faults disk) (faults d.disk) (faults back) was.quiet.later rose;
      unwritten = λ other. absurd (other refl);
      any_moment = λ all least tell.
          let found = was.found all least tell in
          and_then moment left_since disk d.disk back (may_leave disk) (Tells d.layout start all least) (Tells l start all least) was.quiet.any_moment (tells start all least found.0 found.1) tell
          (λ c has. subst (λ (m : Layout). Tells m start all least c) was.layout has);
      any_moment_on = λ first all least tell.
          let found = was.found_on first all least tell in
          and_then moment left_since disk d.disk back (may_leave disk) (TellsOn d.layout first all least) (TellsOn l first all least) was.quiet.any_moment
          (tells_on first all least found.0 found.1 found.2) tell
          (λ c has. subst (λ (m : Layout). TellsOn m first all least c) was.layout has);
    }

    -- the epoch did not begin
    pub not_begun : (back : D) (e : JournalError)
        → (e ≡ journal.DiskFault × Rose (faults d.disk) (faults back))
        ⊎ ((back ≡ d.disk) × ((e ≡ journal.OutOfMemory) ⊎ (e ≡ journal.Full × (half_size d.layout.capacity < 10 + length d.layout.label + 14 * length d.rows))))
        → ((first : Values) (all : List Record) (least k : ℕ) → (found : HasFound seen may_leave first all least k d) → IsBegun found.list → e ≡ journal.Full → ⊥)
        → ((first : Values) (all : List Record) (least k : ℕ) → HasFound seen may_leave first all least k d → LeavesOnly moment left_since d.disk back (Tells d.layout first all least))
        → ((first : Values) (all : List Record) (least k : ℕ) → (found : HasFound seen may_leave first all least k d) → IsBegun found.list
        → LeavesOnly moment left_since d.disk back (TellsOn d.layout first all least))
        → IsRefused seen may_leave moment left_since faults capacity l start tables disk back (as_open e)
    not_begun back e because not_full tells tells_on =
        let Is : JournalError → Type 0 = λ x. IsRefused seen may_leave moment left_since faults capacity l start tables disk back (as_open x) in
        ⊎_elim
        (λ p. subst Is (sym p.0) (faulted back p.1 tells tells_on))
        (λ q. ⊎_elim
        (λ m. subst Is (sym m) (no_memory l start tables disk back (quiet_to back q.0)))
        (λ f. subst Is (sym f.0) (too_many back q.0 f.1 (λ first all least k found begun. not_full first all least k found begun f.0)))
        q.1)
        because
