-- What contracts see of a store on a disk, and which requests commit.
use Rattle.std.specs.Prelude.{◌≡◌, ◌+◌, ◌*◌, ◌<◌, ℕ, Bool, cond, eqb, ◌||◌, if◌then◌else◌, ◌++◌, ◌∷◌, [], List, length, Option, Some, None}
use Rattle.std.specs.BTreeSet.{BTreeSet, contains}
use Rattle.teb_rules.specs.declared.names.Cell.{Cell}
use Rattle.teb_rules.specs.names.Cells.{cell_cmp}
use Rattle.teb_rules.specs.declared.names.Session.{Session}
use Rattle.teb_rules.specs.declared.names.Request.{Request}
use Rattle.teb_rules.specs.declared.names.Request.TheVariants.{Commit}
use Rattle.teb_rules.specs.declared.names.naming.NameBook.{NameBook}
use Rattle.teb_rules.specs.declared.history.Event.{Event}
use Rattle.teb_rules.specs.history.Phases.{held, unfinished, committed}
use Rattle.teb_rules.specs.Setup.{Store}
use Rattle.engine_core.specs.EngineModel.{EngineModel}
use Rattle.record_journal.specs.declared.journal.Journal.{Journal}
use Rattle.commit_laws.specs.Records.{puts_of, has}
use Rattle.record_journal.specs.Format.{Record}
use Rattle.teb_rules.specs.declared.history.Event.TheVariants.{Put}

-- the store, its names, its events, the newest first; the disk, where the journal on it ends, how many commits were acknowledged, and
-- whether the disk has failed
pub record Kept (D : Type 0) : Type 0 where
  pub store : Store
  pub names : NameBook
  pub events : List Event
  pub disk : D
  pub end : ℕ
  pub acknowledged : ℕ
  pub stopped : Bool

abbrev pub kept_of : {D : Type 0} → EngineModel → Journal D → Kept D
kept_of e j = record { store = e.store; names = e.names; events = e.events; disk = j.disk; end = j.progress.end; acknowledged = j.progress.acknowledged; stopped = j.stopped }

-- the same store under the same names
pub record IsSameStore {D : Type 0} (old new : Kept D) : Type 0 where
  pub store : new.store ≡ old.store
  pub names : new.names ≡ old.names

abbrev pub if_unfinished : List Event → Option ℕ → Option ℕ
if_unfinished H None = None
if_unfinished H (Some t) = cond (unfinished H t) (Some t) None

-- the unfinished transaction that the session holds and that it asks to commit
abbrev pub committing : List Event → Session → Request → Option ℕ
committing H s Commit = if_unfinished H (held H s.0)
committing H s _ = None

-- the request would commit what the room that is left may not hold: six bytes, and fourteen for each cell that was put
pub record IsFull (H : List Event) (left : ℕ) (s : Session) (r : Request) : Type 0 where
  pub txn : ℕ
  pub commits : committing H s r ≡ Some txn
  pub full : left < 6 + 14 * length (puts_of H txn)

-- w is t, or it is committed
abbrev pub counts : List Event → ℕ → ℕ → Bool
counts H t w = eqb w t || committed H w

-- the cells are those of the changes
abbrev pub AreCells : BTreeSet Cell → Record → Type 0
AreCells cells cs = (x : Cell) → contains cell_cmp cells x ≡ has cs x

-- the changes with a Put of a cell that is not there yet
abbrev pub with_event : Record → Event → Record
with_event cs (Put t x v) = if has cs x then cs else cs ++ record { cell = x; value = v } ∷ []
with_event cs _ = cs
