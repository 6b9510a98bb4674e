use Rattle.std.proofs.Common.{arith, eqb, ap, ◌∙◌, List, sym, subst}
use Rattle.std.specs.List.{count_by}
use Rattle.teb_rules.specs.declared.names.Txn.{Txn}
use Rattle.teb_rules.specs.declared.history.Event.{Event}
use Rattle.teb_rules.specs.history.OwnEvents.{own_events}
use Rattle.sorted_multimap.specs.LastMatches.{without_lasts}
use Rattle.dependency_book.specs.Dependencies.{reads, puts}
use Rattle.dependency_book.specs.Places.{Room, HasRoom, readers_of, writers_of}
use Rattle.dependency_book.proofs.Noted.{noted_gone, unfinished_ascend}
use Rattle.dependency_book.proofs.registers.Registers.abort.Goals as goal

pub returns-clause-room : goal.returns-clause-room
returns-clause-room c n h = record {
  cells = subst (λ (r : Room). HasRoom r n) (sym c.forget_accesses.ensures.room) h.cells;
  sources = omega (arith, h.sources, c.clear_sources.ensures.spare);
  unfinished = omega (arith, h.unfinished, c.remove_txn.ensures.len, c.remove_txn.ensures.capacity);
}

pub returns-clause-book : goal.returns-clause-book
returns-clause-book c P cause now was may =
    let t = c.args.t in
    noted_gone _ _ P was t cause may
    (λ y. c.forget_accesses.ensures.readers y ∙ ap (λ (es : List Event). without_lasts (count_by (reads y) (own_events es t.0)) (λ (r : Txn × Txn). eqb r.0.0 t.0) (readers_of c.args.self.now.cells y))
    now)
    (λ y. c.forget_accesses.ensures.writers y ∙ ap (λ (es : List Event). without_lasts (count_by (puts y) (own_events es t.0)) (λ (u : Txn). eqb u.0 t.0) (writers_of c.args.self.now.cells y)) now)
    c.clear_sources.ensures.lists c.clear_sources.ensures.values
    (c.remove_txn.ensures.items (unfinished_ascend _ P was))
