-- Which history a timestamp control stands for.
use Rattle.std.specs.Prelude.{◌≡◌, ℕ, Bool, List}
use Rattle.teb_rules.specs.declared.names.Txn.{Txn}
use Rattle.teb_rules.specs.declared.names.Cell.{Cell}
use Rattle.teb_rules.specs.declared.names.ControlKind.TheVariants.{Timestamp}
use Rattle.teb_rules.specs.names.Cells.{cell_cmp}
use Rattle.teb_rules.specs.declared.history.Event.{Event}
use Rattle.teb_rules.specs.Setup.{Setup}
use Rattle.teb_rules.specs.Tree.{row}
use Rattle.phase_api.specs.FactsView.{IsOrderly}
use Rattle.batch_book.specs.Book.{Book}
use Rattle.batch_book.specs.Histories.{BatchesOf}
use Rattle.sorted_multimap.specs.Multimap.{Shown, values_in}
use Rattle.timestamp_node.specs.Reads.{reads, IsTimely}

abbrev pub ShownReads : Type 0
ShownReads = Shown Cell (Txn × Txn)

-- the multimap shows the reads of each cell
abbrev pub ReadsOf : ShownReads → Setup → List Event → ℕ → Type 0
ReadsOf shown S H n = (x : Cell) → values_in cell_cmp shown x ≡ reads S H n x

-- node n is a timestamp node, ordered or not; the history is orderly, and its reads timely; the batches and the reads are those at n
pub record StampsStand (n : ℕ) (is_ordered : Bool) (book : Book) (shown : ShownReads) (S : Setup) (H : List Event) : Type 0 where
  pub kind : (row S.tree n).control ≡ Timestamp
  pub ordered : is_ordered ≡ (row S.tree n).ordered
  pub size : book.size ≡ (row S.tree n).batch
  pub orderly : IsOrderly S H
  pub timely : IsTimely H
  pub batches : BatchesOf book S H n
  pub reads : ReadsOf shown S H n
