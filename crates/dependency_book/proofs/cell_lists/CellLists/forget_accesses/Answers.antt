use Rattle.std.proofs.Common.{◌≡◌, Bool, cond, eqb, refl, sym, ◌∙◌, ap}
use Rattle.teb_rules.specs.declared.names.Txn.{Txn}
use Rattle.teb_rules.specs.declared.names.Cell.{Cell}
use Rattle.teb_rules.specs.names.Cells.{same_cell}
use Rattle.teb_rules.specs.history.OwnEvents.{own_events}
use Rattle.sorted_multimap.specs.LastMatches.{without_last}
use Rattle.dependency_book.specs.Dependencies.{reads, puts}
use Rattle.dependency_book.specs.Places.{readers_of, writers_of}
use Rattle.dependency_book.proofs.MultimapEdits.{forgetting_next, forgetting_other, forgotten}
use Rattle.dependency_book.proofs.OwnAccesses.{reads_if, puts_if, no_read, no_put}
use Rattle.dependency_book.proofs.cell_lists.CellLists.forget_accesses.Goals as goal

pub loop-event-preserved-in-Got : goal.loop-event-preserved-in-Got
loop-event-preserved-in-Got c =
    let t = c.args.t.0 in
    let own = own_events c.args.history.now.events t in
    let was = c.loop-event in
    let old = c.args.self.now in
    let new = c.forget_read.new.self in
    let e = c.in-Some.event in
    let steps = c.in-Some.ensures.steps in
    let reads_it : (x : Cell) → reads x e ≡ same_cell c.in-Got.cell x = λ x. ap (reads x) c.in-Got.is ∙ reads_if c.in-Got.txn c.in-Got.cell c.in-Got.from c.in-Got.value x in
    record {
      readers = forgetting_next (λ (r : Txn × Txn). eqb r.0.0 t) reads (readers_of old) own (readers_of was.self) (readers_of new) was.event-iterator c.next.new.self e was.invariant.readers steps
          (λ x. c.forget_read.ensures.readers x ∙ sym (ap (λ (b : Bool). cond b (without_last (λ (r : Txn × Txn). eqb r.0.0 t) (readers_of was.self x)) (readers_of was.self x)) (reads_it x)));
      writers = forgetting_other (λ (u : Txn). eqb u.0 t) puts (writers_of old) own (writers_of was.self) (writers_of new) was.event-iterator c.next.new.self e was.invariant.writers steps
          (λ x. ap (puts x) c.in-Got.is) c.forget_read.ensures.writers;
      room = c.forget_read.ensures.room ∙ was.invariant.room;
    }

pub loop-event-preserved-in-Put : goal.loop-event-preserved-in-Put
loop-event-preserved-in-Put c =
    let t = c.args.t.0 in
    let own = own_events c.args.history.now.events t in
    let was = c.loop-event in
    let old = c.args.self.now in
    let new = c.forget_put.new.self in
    let e = c.in-Some.event in
    let steps = c.in-Some.ensures.steps in
    let puts_it : (x : Cell) → puts x e ≡ same_cell c.in-Put.cell x = λ x. ap (puts x) c.in-Put.is ∙ puts_if c.in-Put.txn c.in-Put.cell c.in-Put.value x in
    record {
      readers = forgetting_other (λ (r : Txn × Txn). eqb r.0.0 t) reads (readers_of old) own (readers_of was.self) (readers_of new) was.event-iterator c.next.new.self e was.invariant.readers steps
          (λ x. ap (reads x) c.in-Put.is) c.forget_put.ensures.readers;
      writers = forgetting_next (λ (u : Txn). eqb u.0 t) puts (writers_of old) own (writers_of was.self) (writers_of new) was.event-iterator c.next.new.self e was.invariant.writers steps
          (λ x. c.forget_put.ensures.writers x ∙ sym (ap (λ (b : Bool). cond b (without_last (λ (u : Txn). eqb u.0 t) (writers_of was.self x)) (writers_of was.self x)) (puts_it x)));
      room = c.forget_put.ensures.room ∙ was.invariant.room;
    }

pub loop-event-preserved : goal.loop-event-preserved
loop-event-preserved c =
    let t = c.args.t.0 in
    let own = own_events c.args.history.now.events t in
    let was = c.loop-event in
    let old = c.args.self.now in
    let e = c.in-Some.event in
    let steps = c.in-Some.ensures.steps in
    record {
      readers = forgetting_other (λ (r : Txn × Txn). eqb r.0.0 t) reads (readers_of old) own (readers_of was.self) (readers_of was.self) was.event-iterator c.next.new.self e was.invariant.readers
          steps (no_read e c.in_default.not-Got) (λ x. refl);
      writers = forgetting_other (λ (u : Txn). eqb u.0 t) puts (writers_of old) own (writers_of was.self) (writers_of was.self) was.event-iterator c.next.new.self e was.invariant.writers steps
          (no_put e c.in_default.not-Put) (λ x. refl);
      room = was.invariant.room;
    }

pub returns-clause-readers : goal.returns-clause-readers
returns-clause-readers c =
    forgotten (λ (r : Txn × Txn). eqb r.0.0 c.args.t.0) reads (readers_of c.args.self.now) (own_events c.args.history.now.events c.args.t.0) (readers_of c.loop-event.self) c.loop-event.event-iterator
    c.loop-event.invariant.readers c.in-None.ensures.steps.0

pub returns-clause-writers : goal.returns-clause-writers
returns-clause-writers c =
    forgotten (λ (u : Txn). eqb u.0 c.args.t.0) puts (writers_of c.args.self.now) (own_events c.args.history.now.events c.args.t.0) (writers_of c.loop-event.self) c.loop-event.event-iterator
    c.loop-event.invariant.writers c.in-None.ensures.steps.0
