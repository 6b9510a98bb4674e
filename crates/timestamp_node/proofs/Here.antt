-- Which transactions are on the node, and have joined a batch.
use Rattle.std.proofs.Common.{◌≡◌, ◌⊎◌, ℕ, true, IsTrue}
use Rattle.teb_rules.specs.declared.names.Txn.{Txn}
use Rattle.teb_rules.specs.declared.names.Cell.{Cell}
use Rattle.teb_rules.specs.history.Phases.{unfinished, begun}
use Rattle.teb_rules.specs.Tree.{meets}
use Rattle.teb_rules.proofs.lemmas.laws.Nodes.{meets_parts}
use Rattle.phase_api.specs.declared.facts.Facts.{Facts}
use Rattle.phase_api.specs.FactsView.{setup_of, events_of, IsTyped, IsOrderly}
use Rattle.phase_api.specs.Calls.{IsHere}
use Rattle.phase_api.specs.Versions.{SourcesStand, has_version}
use Rattle.access_conflicts.proofs.Orderly.{unfinished_begun}
use Rattle.batch_book.specs.Book.{Book, has_joined}
use Rattle.batch_book.specs.Histories.{BatchesOf}
use Rattle.batch_book.proofs.Telling.{joined_from}
use Rattle.timestamp_node.proofs.Readers.{IsRead, from_got}

module _ (f : Facts) (n : ℕ) where
  pub here_joined : (b : Book) (t : ℕ) → BatchesOf b (setup_of f) (events_of f) n → IsHere f n t → IsTrue (has_joined b t)
  here_joined b t h w = joined_from b (setup_of f) (events_of f) n t h w.typed.begun w.on

  pub unfinished_typed : (t : ℕ) → IsOrderly (setup_of f) (events_of f) → IsTrue (unfinished (events_of f) t) → IsTyped f t
  unfinished_typed t o u = let b = unfinished_begun (events_of f) t u in record { begun = b; kind = o.typed t b }

  pub left_here : (t u : ℕ) → IsTyped f t → meets (setup_of f) (events_of f) n t u ≡ true → IsHere f n t
  left_here t u w m = record { typed = w; on = (meets_parts (setup_of f) (events_of f) n t u m).0 }

  pub right_here : (t u : ℕ) → IsTyped f u → meets (setup_of f) (events_of f) n t u ≡ true → IsHere f n u
  right_here t u w m = record { typed = w; on = (meets_parts (setup_of f) (events_of f) n t u m).1 }

  pub reader_begun : (x : Cell) (r : Txn × Txn) → IsOrderly (setup_of f) (events_of f) → IsRead (setup_of f) (events_of f) n x r → IsTrue (begun (events_of f) r.0.0)
  reader_begun x r o w = o.got r.0.0 x (from_got (events_of f) r.0.0 r.1.0 x w.from)

  pub reader_typed : (x : Cell) (r : Txn × Txn) → IsOrderly (setup_of f) (events_of f) → IsRead (setup_of f) (events_of f) n x r → IsTyped f r.0.0
  reader_typed x r o w = let b = reader_begun x r o w in record { begun = b; kind = o.typed r.0.0 b }

  pub source_stands : (x : Cell) (r : Txn × Txn) → SourcesStand (events_of f) x → IsRead (setup_of f) (events_of f) n x r → (r.1.0 ≡ 0) ⊎ IsTrue (has_version (events_of f) x r.1.0)
  source_stands x r s w = s r.0.0 r.1.0 w.stands w.from
