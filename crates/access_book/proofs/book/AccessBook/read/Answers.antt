use Rattle.std.proofs.Common.{◌≡◌, ◌<◌, ◌-◌, ◌∙◌, suc, length, cond, eqb, ◌||◌, ◌&&◌, ◌∷◌, sym, ap, subst, arith}
use Rattle.std.specs.List.{IsDistinct}
use Rattle.teb_rules.specs.names.Cells.{same_cell}
use Rattle.cell_index.proofs.ListEdits.{distinct-with_cell, placed_count, placed_within, placed_edited_count}
use Rattle.access_book.specs.declared.accesses.Touch.TheVariants as touch
use Rattle.teb_rules.specs.history.Ascending.{IsAscendingBy}
use Rattle.teb_rules.specs.history.Live.{number_of}
use Rattle.access_book.specs.Books.{Shown, readers_of, writers_of, committed_of, touched_of, is_accessor, AreFiled}
use Rattle.access_book.specs.Touched.{Reads}
use Rattle.access_book.proofs.Filing.{at_most_one}
use Rattle.access_book.proofs.Places.{kept, kept_filed, put_ascends, put_filed, put_among}
use Rattle.access_book.proofs.Touches.{pushed_by, known_pushed, own_cell}
use Rattle.access_book.proofs.book.AccessBook.read.Goals as goal

pub put_by_number-requires-clause-within : goal.put_by_number-requires-clause-within
put_by_number-requires-clause-within c =
    let b = c.self.inside in
    let n = c.place_for-place in
    placed_within b.cells.cells b.readers.lists c.args.cell c.self.invariant.readers_paired n.new.cells.cells n.new.readers.lists n.ensures.cells n.ensures.readers n.result n.ensures.place

pub put_by_number-requires-clause-ascending : goal.put_by_number-requires-clause-ascending
put_by_number-requires-clause-ascending c =
    let b = c.self.inside in
    let n = c.place_for-place in
    put_ascends b.cells.cells b.readers.lists c.args.cell c.self.invariant.readers_paired n.new.cells.cells n.new.readers.lists n.ensures.cells n.ensures.readers n.result n.ensures.place
    (subst (λ (s : Shown). (x : _) → IsAscendingBy number_of (readers_of s x)) (sym c.self.view_is) c.requires.filed.readers)

pub invariant_of-self : goal.invariant_of-self
invariant_of-self c =
    let b = c.self.inside in
    let h = c.self.invariant in
    let n = c.place_for-place in
    let k = c.put_by_number in
    let one = at_most_one k.result in
    let some = ap (λ (s : Shown). s.spare) c.self.view_is in
    let begun : c.args.t.0 - 1 < length b.touches.lists = omega (arith, c.requires.first, c.requires.begun, ap (λ (s : Shown). s.begun) c.self.view_is) in
    let number : c.args.t.0 ≡ suc (c.args.t.0 - 1) = omega (arith, c.requires.first) in
    record {
      unique = subst (IsDistinct same_cell) (sym n.ensures.cells) (distinct-with_cell b.cells.cells c.args.cell h.unique);
      readers_paired = placed_edited_count b.cells.cells b.readers.lists c.args.cell h.readers_paired n.new.cells.cells n.new.readers.lists n.ensures.cells n.ensures.readers n.result n.ensures.place
          k.new.self.lists _ k.ensures.lists;
      writers_paired = placed_count b.cells.cells b.writers.lists c.args.cell h.writers_paired n.new.cells.cells n.new.writers.lists n.ensures.cells n.ensures.writers;
      committed_paired = placed_count b.cells.cells b.committed.lists c.args.cell h.committed_paired n.new.cells.cells n.new.committed.lists n.ensures.cells n.ensures.committed;
      known = known_pushed b.cells.cells c.args.cell b.touches.lists c.push.new.self.lists n.new.cells.cells c.args.t.0 (c.args.t.0 - 1) (touch.Read n.result) (Reads c.args.cell) n.ensures.cells
          c.push.ensures.lists number begun h.known n.ensures.place;
      cells_room = omega (arith, n.ensures.cells_room, h.cells_room);
      readers_room = omega (arith, n.ensures.readers_room, h.readers_room, k.ensures.spare, one, some, c.requires.room);
      writers_room = omega (arith, n.ensures.writers_room, h.writers_room, some, c.requires.room);
      committed_room = omega (arith, n.ensures.committed_room, h.committed_room, some, c.requires.room);
      touches_room = omega (arith, c.push.ensures.spare, h.touches_room);
      fits = omega (arith, h.fits, some, c.requires.room);
    }

pub returns-clause-filed : goal.returns-clause-filed
returns-clause-filed c =
    let b = c.self.inside in
    let h = c.self.invariant in
    let n = c.place_for-place in
    let filed = subst AreFiled (sym c.self.view_is) c.requires.filed in
    record {
      readers = put_filed b.cells.cells b.readers.lists c.args.cell h.readers_paired n.new.cells.cells n.new.readers.lists n.ensures.cells n.ensures.readers n.result n.ensures.place c.args.t
          c.put_by_number.new.self.lists c.put_by_number.ensures.lists filed.readers;
      writers = kept_filed b.cells.cells b.writers.lists c.args.cell h.writers_paired n.new.cells.cells n.new.writers.lists n.ensures.cells n.ensures.writers filed.writers;
      committed = kept_filed b.cells.cells b.committed.lists c.args.cell h.committed_paired n.new.cells.cells n.new.committed.lists n.ensures.cells n.ensures.committed filed.committed;
    }

pub returns-clause-readers : goal.returns-clause-readers
returns-clause-readers c x u =
    let b = c.self.inside in
    let n = c.place_for-place in
    put_among b.cells.cells b.readers.lists c.args.cell c.self.invariant.readers_paired n.new.cells.cells n.new.readers.lists n.ensures.cells n.ensures.readers n.result n.ensures.place c.args.t
    c.put_by_number.new.self.lists c.put_by_number.ensures.lists x u
    ∙ ap (λ (s : Shown). is_accessor (readers_of s) x u || (same_cell c.args.cell x && eqb c.args.t.0 u)) c.self.view_is

pub returns-clause-writers : goal.returns-clause-writers
returns-clause-writers c x =
    let b = c.self.inside in
    let n = c.place_for-place in
    kept b.cells.cells b.writers.lists c.args.cell c.self.invariant.writers_paired n.new.cells.cells n.new.writers.lists n.ensures.cells n.ensures.writers x
    ∙ ap (λ (s : Shown). writers_of s x) c.self.view_is

pub returns-clause-committed : goal.returns-clause-committed
returns-clause-committed c x =
    let b = c.self.inside in
    let n = c.place_for-place in
    kept b.cells.cells b.committed.lists c.args.cell c.self.invariant.committed_paired n.new.cells.cells n.new.committed.lists n.ensures.cells n.ensures.committed x
    ∙ ap (λ (s : Shown). committed_of s x) c.self.view_is

pub returns-clause-touched : goal.returns-clause-touched
returns-clause-touched c u =
    let b = c.self.inside in
    let n = c.place_for-place in
    let begun : c.args.t.0 - 1 < length b.touches.lists = omega (arith, c.requires.first, c.requires.begun, ap (λ (s : Shown). s.begun) c.self.view_is) in
    let number : c.args.t.0 ≡ suc (c.args.t.0 - 1) = omega (arith, c.requires.first) in
    let own = own_cell b.cells.cells c.args.cell c.self.invariant.unique n.result n.ensures.place in
    pushed_by b.cells.cells c.args.cell b.touches.lists c.push.new.self.lists n.new.cells.cells c.args.t.0 (c.args.t.0 - 1) (touch.Read n.result) (Reads c.args.cell) n.ensures.cells
    c.push.ensures.lists number begun c.self.invariant.known (ap Reads own) u
    ∙ ap (λ (s : Shown). cond (eqb c.args.t.0 u) (Reads c.args.cell ∷ touched_of s u) (touched_of s u)) c.self.view_is
