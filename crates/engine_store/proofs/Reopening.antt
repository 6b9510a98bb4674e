-- A disk that a crash left is opened again.
use Rattle.std.proofs.Common.{◌≡◌, ◌⊎◌, inl, inr, ⊎_elim, ℕ, List, take, Option, ℤ, refl, sym, ◌∙◌, ap, subst}
use Rattle.std.specs.Prelude.{IsSome}
use Rattle.teb_rules.specs.Replay.{Values}
use Rattle.record_journal.specs.Format.{Record}
use Rattle.record_journal.specs.Journal.{after_records}
use Rattle.epoch_journal.specs.Layout.{Layout}
use Rattle.epoch_journal.specs.Telling.{TellsOn, table_of}
use Rattle.epoch_journal.proofs.ReadBack.{not_damaged, read_same, same_capacity, same_label}
use Rattle.epoch_journal.proofs.Telling.{same_list}
use Rattle.engine_store.specs.declared.open_error.OpenError.{OpenError}
use Rattle.engine_store.specs.declared.open_error.OpenError.TheVariants as store
use Rattle.engine_store.specs.Opening.{AllTellOn, HasForeignRow, HasRowOutside, IsRefused}

-- if a row of another table was read, the records left one
left_outside : (l : Layout) (first start : Values) (all : List Record) (least tables at : ℕ) (file : List ℕ) → (on : TellsOn l first all least file) → HasForeignRow l start tables at file
    → HasRowOutside tables (after_records (take on.tells.k all) first)
left_outside l first start all least tables at file on row =
    let t = on.tells in
    let list = t.stands.list in
    let same = read_same l list row.has.list file t.stands.has row.has.read in
    let x = row.foreign.0 in
    let left : row.T x ≡ after_records (take t.k all) first x =
    row.has.table x ∙ ap (λ (rs : List Record). table_of start rs x) same ∙ sym (same_list first start list x on.begun) ∙ t.stands.table x
    in
    (x, subst (λ (v : Option ℤ). IsSome v) left row.foreign.1, row.foreign.2)

module _ {D : Type 0} (seen : D → List ℕ) (may_leave : D → List ℕ → Type 0) (moment : D → ℕ) (left_since : D → ℕ → List ℕ → Type 0) (faults capacity : D → ℕ) where
  -- the disk is refused only if it fails or memory is out
  pub reopens : (l : Layout) (start : Values) (tables : ℕ) (disk back : D) (why : OpenError) → may_leave disk (seen disk)
      → IsRefused seen may_leave moment left_since faults capacity l start tables disk back why
      → (first : Values) (all : List Record) (least : ℕ) → AllTellOn may_leave l first all least disk → ((k : ℕ) → HasRowOutside tables (after_records (take k all) first) → ⊥)
      → (why ≡ store.DiskFault) ⊎ (why ≡ store.OutOfMemory)
  reopens l start tables disk back why now refused first all least tell inside = go why refused
    where
      on : TellsOn l first all least (seen disk)
      on = tell (seen disk) now

      go : (why : OpenError) → IsRefused seen may_leave moment left_since faults capacity l start tables disk back why → (why ≡ store.DiskFault) ⊎ (why ≡ store.OutOfMemory)
      go store.Full r = absurd (r.not_full first all least tell refl)
      go store.DiskFault r = inl refl
      go (store.Damaged at) r = absurd (⊎_elim
          (λ damaged. not_damaged l on.tells.stands.list at (seen disk) on.tells.stands.has damaged)
          (λ row. inside on.tells.k (left_outside l first start all least tables at (seen disk) on row))
          (r.damaged at refl))
      go store.OtherCapacity r = absurd (same_capacity l on.tells.stands.list (seen disk) on.tells.stands.has (r.other_capacity refl))
      go store.OtherTables r = absurd (same_label l on.tells.stands.list (seen disk) on.tells.stands.has (r.other_tables refl))
      go store.OutOfMemory r = inr refl
