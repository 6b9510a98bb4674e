-- A call on a store's file, as C has it.
use Rattle.std.specs.Prelude.{◌≡◌, ◌+◌, ◌<◌, ◌||◌, ℕ, true, List, [], length, drop, slice_get, Option, Some, None}
use Rattle.crash_disk.specs.Log.{Step, Wrote, Synced}
use Rattle.tebaldi_c.specs.Buffers.{laid_over}
use Rattle.tebaldi_c.specs.Shelves.{FileState, ShelfState, calls, next_place}
use Rattle.tebaldi_c.specs.declared.form.CallForm.{CallForm}
use Rattle.tebaldi_c.specs.declared.form.FileForm.{FileForm}
use Rattle.epoch_journal.specs.Layout.{half_size}

-- the form of a call, and its bytes
abbrev pub call_form : Step → CallForm
call_form (Wrote at bytes) = record { kind = 1; at = at; len = length bytes }
call_form Synced = record { kind = 2; at = 0; len = 0 }

abbrev pub bytes_of : Step → List ℕ
bytes_of (Wrote at bytes) = bytes
bytes_of Synced = []

-- the call at a place is told, and as much of its bytes from `from` on as fits is over the front of the buffer
abbrev pub IsCall : Option Step → ℕ → CallForm → List ℕ → List ℕ → Type 0
IsCall None from told old new = ⊥
IsCall (Some x) from told old new = (told ≡ call_form x) × (new ≡ laid_over (drop from (bytes_of x)) old)

abbrev pub IsNextCall : Option FileState → ℕ → CallForm → List ℕ → List ℕ → Type 0
IsNextCall None from told old new = ⊥
IsNextCall (Some f) from told old new = IsCall (slice_get (calls f) (next_place f)) from told old new

-- one call fewer waits; the store is the same, and until none waits the same commits are kept
pub record IsPerformed (f g : FileState) : Type 0 where
  pub journal : g.journal ≡ f.journal
  pub gathered : g.gathered ≡ f.gathered
  pub waiting : g.waiting + 1 ≡ f.waiting
  pub kept : 0 < g.waiting → g.kept ≡ f.kept
  pub failed : g.failed ≡ f.failed
  pub opened : f.opened ≡ true → g.opened ≡ true

abbrev pub FilesAfter : Option FileState → Option FileState → Type 0
FilesAfter (Some f) (Some g) = IsPerformed f g
FilesAfter _ _ = ⊥

abbrev pub FilesFailed : Option FileState → Option FileState → Type 0
FilesFailed (Some f) (Some g) = g ≡ record f { failed = true }
FilesFailed _ _ = ⊥

abbrev pub AfterCall : Option ShelfState → Option ShelfState → Type 0
AfterCall (Some s) (Some t) = (t.engine ≡ s.engine) × FilesAfter s.file t.file
AfterCall _ _ = ⊥

-- a call on the file has failed
abbrev pub AfterFailure : Option ShelfState → Option ShelfState → Type 0
AfterFailure (Some s) (Some t) = (t.engine ≡ s.engine) × FilesFailed s.file t.file
AfterFailure _ _ = ⊥

-- what is told of a file
pub record IsTold (f : FileState) (told : FileForm) : Type 0 where
  pub kept : told.kept ≡ f.kept
  pub left : told.left + f.journal.end ≡ half_size f.journal.layout.capacity
  pub waiting : told.waiting ≡ f.waiting
  pub stopped : told.stopped ≡ f.failed || f.journal.stopped

abbrev pub IsFileForm : Option FileState → FileForm → Type 0
IsFileForm None told = ⊥
IsFileForm (Some f) told = IsTold f told
