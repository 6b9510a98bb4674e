-- Which history a snapshot control stands for.
use Rattle.std.specs.Prelude.{◌≡◌, ℕ, Bool, not, cond, ◌&&◌, ◌||◌, List, [], map, filter}
use Rattle.teb_rules.specs.declared.names.Cell.{Cell}
use Rattle.teb_rules.specs.declared.names.Txn.{Txn}
use Rattle.teb_rules.specs.declared.names.ControlKind.TheVariants.{Snapshot}
use Rattle.teb_rules.specs.declared.history.Event.{Event}
use Rattle.teb_rules.specs.history.Phases.{txns, begun_count, unfinished, committed, aborted}
use Rattle.teb_rules.specs.history.Accesses.{wrote, got}
use Rattle.teb_rules.specs.history.OwnEvents.{own_events}
use Rattle.teb_rules.specs.Setup.{Setup}
use Rattle.teb_rules.specs.Tree.{row, on}
use Rattle.phase_api.specs.FactsView.{IsOrderly}
use Rattle.batch_book.specs.Book.{Book}
use Rattle.batch_book.specs.Histories.{BatchesOf}
use Rattle.access_book.specs.Touched.{touched_in}
use Rattle.access_book.specs.Books.{Shown, readers_of, writers_of, touched_of, is_accessor, AreFiled}

-- u is unfinished or committed
abbrev pub counts : List Event → ℕ → Bool
counts H u = unfinished H u || committed H u

-- u has put x, n is on its path, and it counts
abbrev pub has_put_in : Setup → List Event → ℕ → Cell → ℕ → Bool
has_put_in S H n x u = on S H n u && counts H u && wrote H u x

-- those, in ascending number
abbrev pub writers_in : Setup → List Event → ℕ → Cell → List Txn
writers_in S H n x = map (λ (u : ℕ). record { 0 = u }) (filter (has_put_in S H n x) (txns H))

-- u has put x, n is on its path, and it is committed
abbrev pub has_committed_in : Setup → List Event → ℕ → Cell → ℕ → Bool
has_committed_in S H n x u = on S H n u && committed H u && wrote H u x

-- those, in ascending number
abbrev pub committed_in : Setup → List Event → ℕ → Cell → List Txn
committed_in S H n x = map (λ (u : ℕ). record { 0 = u }) (filter (has_committed_in S H n x) (txns H))

-- u has read x, n is on its path, and it is not aborted
abbrev pub has_read_in : Setup → List Event → ℕ → Cell → ℕ → Bool
has_read_in S H n x u = on S H n u && not (aborted H u) && got H u x

-- those, in ascending number
abbrev pub readers_in : Setup → List Event → ℕ → Cell → List Txn
readers_in S H n x = map (λ (u : ℕ). record { 0 = u }) (filter (has_read_in S H n x) (txns H))

-- node n is a snapshot node, one book shows its batches, and another the accesses there
pub record SnapshotStand (n : ℕ) (book : Book) (accesses : Shown) (S : Setup) (H : List Event) : Type 0 where
  pub kind : (row S.tree n).control ≡ Snapshot
  pub size : book.size ≡ (row S.tree n).batch
  pub orderly : IsOrderly S H
  pub batches : BatchesOf book S H n
  pub filed : AreFiled accesses
  pub read : (x : Cell) (u : ℕ) → is_accessor (readers_of accesses) x u ≡ has_read_in S H n x u
  pub put : (x : Cell) (u : ℕ) → is_accessor (writers_of accesses) x u ≡ has_put_in S H n x u
  pub begun : accesses.begun ≡ begun_count H
  pub touched : (u : ℕ) → touched_of accesses u ≡ cond (on S H n u) (touched_in (own_events H u)) []
