-- A store that begins with the rows that were read.
use Rattle.std.proofs.Common.{◌≡◌, ℕ, false, List, [], take, ℤ, sym, ◌∙◌, ap, subst}
use Rattle.teb_rules.specs.declared.names.Cell.{Cell}
use Rattle.teb_rules.specs.names.Rows.{row_of, IsAscending}
use Rattle.teb_rules.specs.Replay.{Values}
use Rattle.crash_disk.specs.Disk.{LeavesOnly, Only}
use Rattle.record_journal.specs.Format.{Record}
use Rattle.epoch_journal.specs.Layout.{Layout}
use Rattle.epoch_journal.specs.Telling.{IsBegun, Tells, TellsOn}
use Rattle.epoch_journal.specs.State.{JournalState, RecoveredState}
use Rattle.epoch_journal.specs.Kept.{HasFound, Keeps}
use Rattle.epoch_journal.specs.Read.{IsCurrently}
use Rattle.epoch_journal.proofs.Moments.{and_then}
use Rattle.engine_store.specs.Opening.{HasTable, IsOpened}
use Rattle.engine_store.specs.OpeningSteps.{IsRecovered}

module _ {D : Type 0} (seen : D → List ℕ) (may_leave : D → List ℕ → Type 0) (moment : D → ℕ) (left_since : D → ℕ → List ℕ → Type 0) (faults capacity : D → ℕ)
    (l : Layout) (start : Values) (disk : D) (d : RecoveredState D) (was : IsRecovered seen may_leave moment left_since faults capacity l start disk d) where
  pub opened : (rows items : List (Cell × ℤ)) (j : JournalState D) → rows ≡ d.rows
      → ((j.stopped ≡ false) × (j.acknowledged ≡ 0) × (j.layout ≡ d.layout) × (items ≡ d.rows))
      → (IsCurrently d.layout.capacity d.current (seen d.disk) → Only (seen d.disk) (may_leave d.disk) → Keeps seen may_leave (row_of items) [] 0 j)
      → ((first : Values) (all : List Record) (least k : ℕ) → HasFound seen may_leave first all least k d → Keeps seen may_leave first (take k all) k j)
      → ((first : Values) (all : List Record) (least k : ℕ) → HasFound seen may_leave first all least k d → LeavesOnly moment left_since d.disk j.disk (Tells d.layout first all least))
      → ((first : Values) (all : List Record) (least k : ℕ) → (found : HasFound seen may_leave first all least k d) → IsBegun found.list
      → LeavesOnly moment left_since d.disk j.disk (TellsOn d.layout first all least))
      → IsOpened seen may_leave moment left_since l start disk rows j
  opened rows items j same run begins keeps tells tells_on = record {
    has = subst (λ (rs : List (Cell × ℤ)). HasTable l start (row_of rs) (seen disk)) (sym same) was.has;
    ascending = subst IsAscending (sym same) was.ascending;
    begins = subst (λ (rs : List (Cell × ℤ)). Keeps seen may_leave (row_of rs) [] 0 j) (run.3 ∙ sym same)
        (begins (subst (λ (x : ℕ × List ℕ). IsCurrently x.0 d.current x.1) (λ i. (sym (ap (λ (m : Layout). m.capacity) was.layout) i, sym was.quiet.same i)) was.current)
        (λ c left. was.durable c left ∙ sym was.quiet.same));
    running = run.0;
    acknowledged = run.1;
    layout = run.2 ∙ was.layout;
    found = λ all least tell.
        let found = was.found all least tell in
        record {
          k = found.0;
          no_fewer = found.1.no_fewer;
          no_more = found.1.no_more;
          left = λ x. ap (λ (rs : List (Cell × ℤ)). row_of rs x) same ∙ found.1.rows x;
          keeps = keeps start all least found.0 found.1;
        };
    found_on = λ first all least tell.
        let found = was.found_on first all least tell in
        record {
          k = found.0;
          no_fewer = found.1.no_fewer;
          no_more = found.1.no_more;
          left = λ x. ap (λ (rs : List (Cell × ℤ)). row_of rs x) same ∙ found.1.rows x;
          keeps = keeps first all least found.0 found.1;
        };
    any_moment = λ all least tell.
        let found = was.found all least tell in
        and_then moment left_since disk d.disk j.disk (may_leave disk) (Tells d.layout start all least) (Tells l start all least) was.quiet.any_moment (tells start all least found.0 found.1) tell
        (λ c has. subst (λ (m : Layout). Tells m start all least c) was.layout has);
    any_moment_on = λ first all least tell.
        let found = was.found_on first all least tell in
        and_then moment left_since disk d.disk j.disk (may_leave disk) (TellsOn d.layout first all least) (TellsOn l first all least) was.quiet.any_moment
        (tells_on first all least found.0 found.1 found.2) tell
        (λ c has. subst (λ (m : Layout). TellsOn m first all least c) was.layout has);
  }
