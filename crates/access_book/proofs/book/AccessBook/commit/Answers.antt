use Rattle.std.proofs.Common.{◌≡◌, ◌≤◌, ◌-◌, ◌∙◌, length, map, eqb, ◌||◌, ◌&&◌, sym, ap, subst, arith}
use Rattle.access_book.specs.Touched.{any_puts, puts_among}
use Rattle.cell_index.specs.Cells.{place_in}
use Rattle.access_book.specs.Books.{Shown, list_by, committed_of, touched_of, is_among, is_accessor, AreFiled}
use Rattle.access_book.specs.Places.{all_touched, puts_at, AreKnown}
use Rattle.access_book.proofs.Places.{all_ascend, filed_back, list_of-is}
use Rattle.access_book.proofs.Touches.{accesses_are, any_puts-is, puts_among-is}
use Rattle.access_book.proofs.book.AccessBook.commit.Goals as goal

pub put_in-requires-clause-filed : goal.put_in-requires-clause-filed
put_in-requires-clause-filed c =
    let b = c.self.inside in
    all_ascend b.cells.cells b.committed.lists c.self.invariant.unique c.self.invariant.committed_paired (subst AreFiled (sym c.self.view_is) c.requires.filed).committed

pub put_in-requires-clause-room : goal.put_in-requires-clause-room
put_in-requires-clause-room c =
    let b = c.self.inside in
    let held = puts_among-is b.cells.cells c.list-touches.result.now in
    let all = ap puts_among (accesses_are b.cells.cells b.touches.lists c.args.t.0 c.requires.first ∙ ap (all_touched b.cells.cells) (sym c.list-touches.ensures)) in
    let was = ap (λ (s : Shown). puts_among (touched_of s c.args.t.0)) c.self.view_is in
    omega (arith, held, all, was, c.requires.puts, c.self.invariant.committed_room, ap (λ (s : Shown). s.pending) c.self.view_is)

pub overflow_sub-self : goal.overflow_sub-self
overflow_sub-self c =
    let b = c.self.inside in
    let held = puts_among-is b.cells.cells c.list-touches.result.now in
    let all = ap puts_among (accesses_are b.cells.cells b.touches.lists c.args.t.0 c.requires.first ∙ ap (all_touched b.cells.cells) (sym c.list-touches.ensures)) in
    let was = ap (λ (s : Shown). puts_among (touched_of s c.args.t.0)) c.self.view_is in
    omega (arith, held, all, was, c.requires.puts, c.put_in.ensures.puts, ap (λ (s : Shown). s.pending) c.self.view_is)

pub invariant_of-self : goal.invariant_of-self
invariant_of-self c =
    let b = c.self.inside in
    let h = c.self.invariant in
    let held = puts_among-is b.cells.cells c.list-touches.result.now in
    let all = ap puts_among (accesses_are b.cells.cells b.touches.lists c.args.t.0 c.requires.first ∙ ap (all_touched b.cells.cells) (sym c.list-touches.ensures)) in
    let was = ap (λ (s : Shown). puts_among (touched_of s c.args.t.0)) c.self.view_is in
    let le : c.put_in.result ≤ b.pending = omega (arith, held, all, was, c.requires.puts, c.put_in.ensures.puts, ap (λ (s : Shown). s.pending) c.self.view_is) in
    record {
      unique = h.unique;
      readers_paired = h.readers_paired;
      writers_paired = h.writers_paired;
      committed_paired = c.put_in.ensures.count ∙ h.committed_paired;
      known = h.known;
      cells_room = h.cells_room;
      readers_room = h.readers_room;
      writers_room = h.writers_room;
      committed_room = omega (arith, h.committed_room, c.put_in.ensures.room, le);
      touches_room = h.touches_room;
      fits = omega (arith, h.fits);
    }

pub returns-clause-filed : goal.returns-clause-filed
returns-clause-filed c =
    let b = c.self.inside in
    let filed = subst AreFiled (sym c.self.view_is) c.requires.filed in
    record {
      readers = filed.readers;
      writers = filed.writers;
      committed = filed_back b.cells.cells c.put_in.new.committed.lists c.put_in.ensures.filed;
    }

pub returns-clause-committed : goal.returns-clause-committed
returns-clause-committed c x u =
    let b = c.self.inside in
    let zs = c.list-touches.result.now in
    let known = subst (AreKnown (length b.cells.cells)) (sym c.list-touches.ensures) (c.self.invariant.known (c.args.t.0 - 1)) in
    let shown : puts_at (place_in b.cells.cells x) zs ≡ any_puts x (list_by (map (all_touched b.cells.cells) b.touches.lists) c.args.t.0) =
    sym (any_puts-is b.cells.cells c.self.invariant.unique x zs known) ∙ ap (λ ls. any_puts x (all_touched b.cells.cells ls)) c.list-touches.ensures
    ∙ ap (any_puts x) (sym (accesses_are b.cells.cells b.touches.lists c.args.t.0 c.requires.first)) in
    ap (is_among u) (list_of-is b.cells.cells c.put_in.new.committed.lists x) ∙ c.put_in.ensures.lists (place_in b.cells.cells x) u
    ∙ (λ j. (is_among u (sym (list_of-is b.cells.cells b.committed.lists x) j) || (shown j && eqb c.args.t.0 u)))
    ∙ ap (λ (s : Shown). (is_accessor (committed_of s) x u || (any_puts x (touched_of s c.args.t.0) && eqb c.args.t.0 u))) c.self.view_is

pub returns-clause-pending : goal.returns-clause-pending
returns-clause-pending c =
    let b = c.self.inside in
    let held = puts_among-is b.cells.cells c.list-touches.result.now in
    let all = ap puts_among (accesses_are b.cells.cells b.touches.lists c.args.t.0 c.requires.first ∙ ap (all_touched b.cells.cells) (sym c.list-touches.ensures)) in
    let was = ap (λ (s : Shown). puts_among (touched_of s c.args.t.0)) c.self.view_is in
    omega (arith, held, all, was, c.requires.puts, c.put_in.ensures.puts, ap (λ (s : Shown). s.pending) c.self.view_is)
