-- With what an opened store begins, and why a store is not opened.
use Rattle.std.specs.Prelude.{◌≡◌, ◌⊎◌, ℕ, ◌+◌, ◌*◌, ◌<◌, ◌≤◌, false, List, [], length, take, ℤ, IsSome}
use Rattle.std.specs.List.{All}
use Rattle.teb_rules.specs.declared.names.Cell.{Cell}
use Rattle.teb_rules.specs.names.Rows.{row_of, IsAscending}
use Rattle.teb_rules.specs.Replay.{Values}
use Rattle.teb_io.specs.Faults.{Rose}
use Rattle.store_setup.specs.declared.Setup.{Setup}
use Rattle.store_setup.specs.Stores.{store_of}
use Rattle.engine_core.specs.EngineModel.{EngineModel, IsOfEngine}
use Rattle.crash_disk.specs.Disk.{IsQuiet, LeavesOnly}
use Rattle.record_journal.specs.Format.{Record}
use Rattle.record_journal.specs.Journal.{after_records}
use Rattle.epoch_journal.specs.declared.current.Current.{Current}
use Rattle.epoch_journal.specs.Layout.{Layout, layout, half_size}
use Rattle.epoch_journal.specs.Telling.{Tells, TellsOn, table_of}
use Rattle.epoch_journal.specs.State.{JournalState}
use Rattle.epoch_journal.specs.Kept.{Keeps}
use Rattle.epoch_journal.specs.Read.{HasOtherCapacity, HasOtherLabel, IsCurrently, IsDamaged, IsReadAs, half_found_at}
use Rattle.engine_store.specs.declared.open_error.OpenError.{OpenError}
use Rattle.engine_store.specs.declared.open_error.OpenError.TheVariants as errors
use Rattle.engine_store.specs.Label.{label_of}

-- each row is of one of the first tables
abbrev pub AreOfTables : ℕ → List (Cell × ℤ) → Type 0
AreOfTables tables rows = All (λ r. r.0.table.0 < tables) rows

-- a cell of another table than the first ones has a row
abbrev pub HasRowOutside : ℕ → Values → Type 0
HasRowOutside tables T = (x : Cell) × IsSome (T x) × (tables ≤ x.table.0)

-- where everything is on a disk with the rows of these tables
abbrev pub layout_of : ℕ → Setup → Layout
layout_of capacity s = layout capacity (label_of s.names.tables)

-- the disk has records that leave this table of values
pub record HasTable (l : Layout) (start T : Values) (file : List ℕ) : Type 0 where
  pub list : List Record
  pub read : IsReadAs l list file
  pub table : (x : Cell) → T x ≡ table_of start list x

-- a cell of none of the first tables has a row there, and the half that is current begins at this place
pub record HasForeignRow (l : Layout) (start : Values) (tables at : ℕ) (file : List ℕ) : Type 0 where
  pub T : Values
  pub has : HasTable l start T file
  pub foreign : HasRowOutside tables T
  pub current : Current
  pub is_current : IsCurrently l.capacity current file
  pub place : at ≡ half_found_at l.capacity current

-- the rows there, with the label, do not fit a half
pub record HasTooMany (l : Layout) (start : Values) (file : List ℕ) : Type 0 where
  pub rows : List (Cell × ℤ)
  pub ascending : IsAscending rows
  pub has : HasTable l start (row_of rows) file
  pub many : half_size l.capacity < 10 + length l.label + 14 * length rows

-- the engine of a setup, but for its rows; nothing has happened in it
pub record IsBeginning (s : Setup) (e : EngineModel) : Type 0 where
  pub is : IsOfEngine e
  pub events : e.events ≡ []
  pub ready : e.ready ≡ false
  pub names : e.names ≡ s.names
  pub setup : e.store.setup ≡ (store_of s).setup
  pub tables : e.store.tables ≡ (store_of s).tables

-- whatever a crash leaves of the disk tells this
abbrev pub AllTell : {D : Type 0} → (D → List ℕ → Type 0) → Layout → Values → List Record → ℕ → D → Type 0
AllTell may_leave l start all least disk = (c : List ℕ) → may_leave disk c → Tells l start all least c

abbrev pub AllTellOn : {D : Type 0} → (D → List ℕ → Type 0) → Layout → Values → List Record → ℕ → D → Type 0
AllTellOn may_leave l first all least disk = (c : List ℕ) → may_leave disk c → TellsOn l first all least c

-- the rows are those after the first k of all records, for a k that is at least `least`, and the journal goes on from there
pub record GoesOn {D : Type 0} (seen : D → List ℕ) (may_leave : D → List ℕ → Type 0) (first : Values) (all : List Record) (least : ℕ) (rows : List (Cell × ℤ)) (j : JournalState D) : Type 0 where
  pub k : ℕ
  pub no_fewer : least ≤ k
  pub no_more : k ≤ length all
  pub left : (x : Cell) → row_of rows x ≡ after_records (take k all) first x
  pub keeps : Keeps seen may_leave first (take k all) k j

-- what a store begins with: the rows that the disk has, or the starting rows if it has none, and a journal
pub record IsOpened {D : Type 0} (seen : D → List ℕ) (may_leave : D → List ℕ → Type 0) (moment : D → ℕ) (left_since : D → ℕ → List ℕ → Type 0)
    (l : Layout) (start : Values) (disk : D) (rows : List (Cell × ℤ)) (j : JournalState D) : Type 0 where
  pub has : HasTable l start (row_of rows) (seen disk)
  pub ascending : IsAscending rows
  -- an epoch of the journal begins with these rows, and has no record
  pub begins : Keeps seen may_leave (row_of rows) [] 0 j
  pub running : j.stopped ≡ false
  pub acknowledged : j.acknowledged ≡ 0
  pub layout : j.layout ≡ l
  -- of a disk that a crash has left, or a call that failed; if it surely has a checkpoint, over any first rows
  pub found : (all : List Record) (least : ℕ) → AllTell may_leave l start all least disk → GoesOn seen may_leave start all least rows j
  pub found_on : (first : Values) (all : List Record) (least : ℕ) → AllTellOn may_leave l first all least disk → GoesOn seen may_leave first all least rows j
  -- a crash at any moment of the opening leaves what it left before
  pub any_moment : (all : List Record) (least : ℕ) → AllTell may_leave l start all least disk → LeavesOnly moment left_since disk j.disk (Tells l start all least)
  pub any_moment_on : (first : Values) (all : List Record) (least : ℕ) → AllTellOn may_leave l first all least disk → LeavesOnly moment left_since disk j.disk (TellsOn l first all least)

-- what is so if a disk is handed back for this reason
pub record IsRefused {D : Type 0} (seen : D → List ℕ) (may_leave : D → List ℕ → Type 0) (moment : D → ℕ) (left_since : D → ℕ → List ℕ → Type 0) (faults capacity : D → ℕ)
    (l : Layout) (start : Values) (tables : ℕ) (disk back : D) (why : OpenError) : Type 0 where
  pub damaged : (at : ℕ) → why ≡ errors.Damaged at → IsDamaged l at (seen disk) ⊎ HasForeignRow l start tables at (seen disk)
  pub other_capacity : why ≡ errors.OtherCapacity → HasOtherCapacity l (seen disk)
  pub other_tables : why ≡ errors.OtherTables → HasOtherLabel l (seen disk)
  pub full : why ≡ errors.Full → (half_size l.capacity < 10 + length l.label) ⊎ HasTooMany l start (seen disk)
  pub not_full : (first : Values) (all : List Record) (least : ℕ) → AllTellOn may_leave l first all least disk → why ≡ errors.Full → ⊥
  pub fault : why ≡ errors.DiskFault → Rose (faults disk) (faults back)
  pub unwritten : (why ≡ errors.DiskFault → ⊥) → IsQuiet seen may_leave moment left_since faults capacity disk back
  pub any_moment : (all : List Record) (least : ℕ) → AllTell may_leave l start all least disk → LeavesOnly moment left_since disk back (Tells l start all least)
  pub any_moment_on : (first : Values) (all : List Record) (least : ℕ) → AllTellOn may_leave l first all least disk → LeavesOnly moment left_since disk back (TellsOn l first all least)
