use Rattle.std.proofs.Common.{◌≡◌, eqb}
use Rattle.teb_rules.specs.declared.names.Txn.{Txn}
use Rattle.teb_rules.specs.history.OwnEvents.{own_events}
use Rattle.dependency_book.specs.Dependencies.{reads, puts}
use Rattle.dependency_book.specs.Places.{readers_of, writers_of}
use Rattle.dependency_book.proofs.MultimapEdits.{IsForgetting}
use Rattle.dependency_book.proofs.cell_lists.CellLists.forget_accesses.Given as goal

abbrev pub invariant-loop-event : goal.invariant-loop-event
invariant-loop-event l = record {
  readers : IsForgetting (λ (r : Txn × Txn). eqb r.0.0 l.t.0) reads (readers_of l.initial.self) (readers_of l.self) (own_events l.history.events l.t.0) l.event-iterator;
  writers : IsForgetting (λ (u : Txn). eqb u.0 l.t.0) puts (writers_of l.initial.self) (writers_of l.self) (own_events l.history.events l.t.0) l.event-iterator;
  room : l.self.room ≡ l.initial.self.room;
}
