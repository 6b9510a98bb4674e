-- In the empty history no transaction has put or read anything.
use Rattle.std.proofs.Common.{◌≡◌, ℕ, false, not, ◌&&◌, List, [], sym, ◌∙◌, ap, subst}
use Rattle.std.proofs.lemmas.Bool.{and_right}
use Rattle.teb_rules.specs.declared.names.Cell.{Cell}
use Rattle.teb_rules.specs.declared.history.Event.{Event}
use Rattle.teb_rules.specs.history.Phases.{aborted, committed}
use Rattle.teb_rules.specs.history.Accesses.{is_put, is_got, put_at, got_at, wrote, got}
use Rattle.teb_rules.specs.history.Ascending.{IsAscendingBy}
use Rattle.teb_rules.specs.history.Live.{number_of}
use Rattle.teb_rules.proofs.lemmas.history.Any.{came_any}
use Rattle.teb_rules.specs.Setup.{Setup}
use Rattle.teb_rules.specs.Tree.{row, on}
use Rattle.teb_rules.specs.declared.names.ControlKind.TheVariants.{Snapshot}
use Rattle.batch_book.specs.Book.{Book}
use Rattle.batch_book.specs.Histories.{BatchesOf}
use Rattle.access_conflicts.proofs.Orderly.{orderly_none}
use Rattle.access_book.specs.Books.{Shown, is_among, AreFiled, IsEmpty}
use Rattle.snapshot_node.specs.Standing.{SnapshotStand, counts, has_put_in, has_committed_in, has_read_in}
use Rattle.snapshot_node.specs.Committed.{CommittedStand}
use Rattle.snapshot_node.proofs.Touching.{count_none, touched_none}

wrote_none : (u : ℕ) (x : Cell) → wrote [] u x ≡ false
unfolding wrote put_at
wrote_none u x = came_any (is_put u x) []

puts_none : (S : Setup) (n : ℕ) (x : Cell) (u : ℕ) → has_put_in S [] n x u ≡ false
puts_none S n x u = and_right (on S [] n u && counts [] u) (wrote [] u x) (wrote_none u x)

got_none : (u : ℕ) (x : Cell) → got [] u x ≡ false
unfolding got got_at
got_none u x = came_any (is_got u x) []

reads_none : (S : Setup) (n : ℕ) (x : Cell) (u : ℕ) → has_read_in S [] n x u ≡ false
reads_none S n x u = and_right (on S [] n u && not (aborted [] u)) (got [] u x) (got_none u x)

committed_none_in : (S : Setup) (n : ℕ) (x : Cell) (u : ℕ) → has_committed_in S [] n x u ≡ false
committed_none_in S n x u = and_right (on S [] n u && committed [] u) (wrote [] u x) (wrote_none u x)

-- the empty book of accesses shows the empty history
module _ (S : Setup) (H : List Event) (n : ℕ) (a : Shown) (e : H ≡ []) (h : IsEmpty a) where
  filed_none : AreFiled a
  filed_none = record {
    readers = λ x. subst (IsAscendingBy number_of) (sym (h.readers x)) tt;
    writers = λ x. subst (IsAscendingBy number_of) (sym (h.writers x)) tt;
    committed = λ x. subst (IsAscendingBy number_of) (sym (h.committed x)) tt;
  }

  pub stands_none : (b : Book) → (row S.tree n).control ≡ Snapshot → b.size ≡ (row S.tree n).batch → BatchesOf b S [] n → SnapshotStand n b a S H
  stands_none b k z q = subst (λ (G : List Event). SnapshotStand n b a S G) (sym e) (record {
    kind = k;
    size = z;
    orderly = orderly_none S;
    batches = q;
    filed = filed_none;
    read = λ x u. ap (is_among u) (h.readers x) ∙ sym (reads_none S n x u);
    put = λ x u. ap (is_among u) (h.writers x) ∙ sym (puts_none S n x u);
    begun = h.begun ∙ sym count_none;
    touched = λ u. h.touched u ∙ touched_none S n u;
  })

  pub committed_none : CommittedStand n a S H
  committed_none = subst (λ (G : List Event). CommittedStand n a S G) (sym e) (record {
    put = λ x u. ap (is_among u) (h.committed x) ∙ sym (committed_none_in S n x u);
    pending = h.pending;
  })
