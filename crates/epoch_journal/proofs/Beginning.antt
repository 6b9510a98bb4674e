-- The first epoch after recovery.
use Rattle.std.proofs.Common.{◌≡◌, inl, inr, ⊎_elim, ℕ, ◌+◌, ◌*◌, ◌<◌, ◌≤◌, List, [], ◌∷◌, length, take, sym, subst, ◌∙◌, ap}
use Rattle.std.proofs.lemmas.List.{append-nil, length-take-le}
use Rattle.teb_rules.specs.declared.names.Cell.{Cell}
use Rattle.teb_rules.specs.names.Rows.{row_of, IsAscending}
use Rattle.teb_rules.specs.Replay.{Values}
use Rattle.crash_disk.specs.Disk.{Only}
use Rattle.record_journal.specs.Format.{Record}
use Rattle.epoch_journal.specs.Layout.{half_size}
use Rattle.epoch_journal.specs.Halves.{HasOneOf, IsAt, IsResting}
use Rattle.epoch_journal.specs.Read.{IsCurrently, IsReadAs}
use Rattle.epoch_journal.specs.State.{JournalState, RecoveredState}
use Rattle.epoch_journal.specs.Telling.{IsBegun, Tells, TellsOn, checkpoint_of, table_of}
use Rattle.epoch_journal.specs.Kept.{HasFound, Keeps}
use Rattle.epoch_journal.proofs.ReadBack.{found_at, read_same}
use Rattle.epoch_journal.proofs.Telling.{checkpoint_rows, runs, same_list}
use Rattle.epoch_journal.proofs.Settling.{at_has}
use Rattle.epoch_journal.proofs.Room.{rows_fit}

-- a disk with the old records, or with the checkpoint of what they left, tells the same records
pub tells_again : {D : Type 0} (seen : D → List ℕ) (may_leave : D → List ℕ → Type 0) (start : Values) (all : List Record) (least k : ℕ) (d : RecoveredState D)
    → (found : HasFound seen may_leave start all least k d) → (c : List ℕ)
    → HasOneOf d.layout found.list (checkpoint_of d.rows ∷ []) c → Tells d.layout start all least c
tells_again seen may_leave start all least k d found c has = record {
  k = k;
  no_fewer = found.no_fewer;
  no_more = found.no_more;
  stands = ⊎_elim
      (λ old. record { list = found.list; has = old; table = found.table })
      (λ new. record { list = checkpoint_of d.rows ∷ []; has = new; table = λ x. checkpoint_rows d.rows x ∙ found.rows x })
      has;
}

pub tells_on_again : {D : Type 0} (seen : D → List ℕ) (may_leave : D → List ℕ → Type 0) (start : Values) (all : List Record) (least k : ℕ) (d : RecoveredState D)
    → (found : HasFound seen may_leave start all least k d) → IsBegun found.list
    → (c : List ℕ) → HasOneOf d.layout found.list (checkpoint_of d.rows ∷ []) c → TellsOn d.layout start all least c
tells_on_again seen may_leave start all least k d found begun c (inl old) = record {
  tells = record { k = k; no_fewer = found.no_fewer; no_more = found.no_more; stands = record { list = found.list; has = old; table = found.table } };
  begun = begun;
}
tells_on_again seen may_leave start all least k d found begun c (inr new) = record {
  tells = record {
    k = k;
    no_fewer = found.no_fewer;
    no_more = found.no_more;
    stands = record { list = checkpoint_of d.rows ∷ []; has = new; table = λ x. checkpoint_rows d.rows x ∙ found.rows x };
  };
  begun = tt;
}

-- what was found of a disk with a checkpoint holds of an equal disk
pub begun_found : {D : Type 0} (seen : D → List ℕ) (may_leave : D → List ℕ → Type 0) (start : Values) (all : List Record) (least k : ℕ) (d e : RecoveredState D) → d ≡ e
    → (found : HasFound seen may_leave start all least k e) → IsBegun found.list
    → (same : HasFound seen may_leave start all least k d) × IsBegun same.list
begun_found {D} seen may_leave start all least k d e same found begun =
    subst (λ (s : RecoveredState D). (h : HasFound seen may_leave start all least k s) × IsBegun h.list) (sym same) (found, begun)

pub begun_keeps : {D : Type 0} (seen : D → List ℕ) (may_leave : D → List ℕ → Type 0) (start : Values) (all : List Record) (least k : ℕ) (d : RecoveredState D)
    → (found : HasFound seen may_leave start all least k d)
    → (j : JournalState D) → j.end < half_size j.layout.capacity → IsResting j.layout j.half (checkpoint_of d.rows ∷ []) j.end (seen j.disk) → Only (seen j.disk) (may_leave j.disk)
    → Keeps seen may_leave start (take k all) k j
begun_keeps seen may_leave start all least k d found j below resting durable =
    runs seen may_leave start (take k all) k j below (sym (length-take-le k all found.no_more)) (record {
      past = take k all;
      asked = [];
      rows = d.rows;
      split = sym (append-nil (take k all));
      checkpoint = found.rows;
      resting = resting;
      durable = durable;
    })

-- what was found of a disk that tells records, from what was read of it
pub found_of : {D : Type 0} (seen : D → List ℕ) (may_leave : D → List ℕ → Type 0) (start : Values) (all : List Record) (least : ℕ) (file : List ℕ) (d : RecoveredState D)
    → (t : Tells d.layout start all least file) → (rs : List Record)
    → IsReadAs d.layout rs file → ((x : Cell) → row_of d.rows x ≡ table_of start rs x) → IsCurrently d.layout.capacity d.current file → seen d.disk ≡ file → Only (seen d.disk) (may_leave d.disk)
    → HasFound seen may_leave start all least t.k d
found_of seen may_leave start all least file d t rs read rows current same durable =
    let list = t.stands.list in
    let is = read_same d.layout list rs file t.stands.has read in
    record {
      no_fewer = t.no_fewer;
      no_more = t.no_more;
      rows = λ x. rows x ∙ ap (λ (l : List Record). table_of start l x) is ∙ t.stands.table x;
      list = list;
      table = t.stands.table;
      at = subst (λ (f : List ℕ). IsAt d.layout list d.current f) (sym same) (found_at d.layout list d.current file current t.stands.has);
      durable = durable;
    }

-- so too of a disk with a checkpoint, whatever starting rows it was read with
pub found_on_of : {D : Type 0} (seen : D → List ℕ) (may_leave : D → List ℕ → Type 0) (first start : Values) (all : List Record) (least : ℕ) (file : List ℕ) (d : RecoveredState D)
    → TellsOn d.layout first all least file → (rs : List Record)
    → IsReadAs d.layout rs file → ((x : Cell) → row_of d.rows x ≡ table_of start rs x) → IsCurrently d.layout.capacity d.current file → seen d.disk ≡ file → Only (seen d.disk) (may_leave d.disk)
    → (k : ℕ) × (found : HasFound seen may_leave first all least k d) × IsBegun found.list
unfolding found_of
found_on_of seen may_leave first start all least file d on rs read rows current same durable =
    let t = on.tells in
    let begun = subst IsBegun (sym (read_same d.layout t.stands.list rs file t.stands.has read)) on.begun in
    (t.k, found_of seen may_leave first all least file d t rs read (λ x. rows x ∙ same_list start first rs x begun) current same durable, on.begun)

-- and a checkpoint of its rows fits in the other half
pub finds_room : {D : Type 0} (seen : D → List ℕ) (may_leave : D → List ℕ → Type 0) (start : Values) (all : List Record) (least k : ℕ) (d : RecoveredState D)
    → (found : HasFound seen may_leave start all least k d) → IsBegun found.list
    → IsAscending d.rows → 10 + length d.layout.label + 14 * length d.rows ≤ half_size d.layout.capacity
finds_room seen may_leave start all least k d found begun up =
    rows_fit d.layout start found.list d.rows (seen d.disk) (at_has d.layout found.list d.current (seen d.disk) found.at) begun up (λ x. found.rows x ∙ sym (found.table x))
