use Rattle.std.proofs.Common.{◌≡◌, ◌-◌, ◌∙◌, length, map, eqb, not, ◌&&◌, sym, ap, subst, arith}
use Rattle.access_book.specs.Touched.{any_reads, any_puts, puts_among}
use Rattle.cell_index.specs.Cells.{place_in}
use Rattle.access_book.specs.Books.{Shown, list_by, readers_of, writers_of, touched_of, is_among, is_accessor, AreFiled}
use Rattle.access_book.specs.Places.{all_touched, reads_at, puts_at, AreKnown}
use Rattle.access_book.proofs.Places.{all_ascend, filed_back, list_of-is}
use Rattle.access_book.proofs.Touches.{accesses_are, any_reads-is, any_puts-is, puts_among-is}
use Rattle.access_book.proofs.book.AccessBook.abort.Goals as goal

pub take_out-requires-clause-readers : goal.take_out-requires-clause-readers
take_out-requires-clause-readers c =
    let b = c.self.inside in
    all_ascend b.cells.cells b.readers.lists c.self.invariant.unique c.self.invariant.readers_paired (subst AreFiled (sym c.self.view_is) c.requires.filed).readers

pub take_out-requires-clause-writers : goal.take_out-requires-clause-writers
take_out-requires-clause-writers c =
    let b = c.self.inside in
    all_ascend b.cells.cells b.writers.lists c.self.invariant.unique c.self.invariant.writers_paired (subst AreFiled (sym c.self.view_is) c.requires.filed).writers

pub overflow_sub-self : goal.overflow_sub-self
overflow_sub-self c =
    let b = c.self.inside in
    let held = puts_among-is b.cells.cells c.list-touches.result.now in
    let all = ap puts_among (accesses_are b.cells.cells b.touches.lists c.args.t.0 c.requires.first ∙ ap (all_touched b.cells.cells) (sym c.list-touches.ensures)) in
    let was = ap (λ (s : Shown). puts_among (touched_of s c.args.t.0)) c.self.view_is in
    omega (arith, held, all, was, c.requires.puts, c.take_out.ensures.puts, ap (λ (s : Shown). s.pending) c.self.view_is)

pub returns-clause-filed : goal.returns-clause-filed
returns-clause-filed c =
    let b = c.self.inside in
    let filed = subst AreFiled (sym c.self.view_is) c.requires.filed in
    record {
      readers = filed_back b.cells.cells c.take_out.new.readers.lists c.take_out.ensures.readers_filed;
      writers = filed_back b.cells.cells c.take_out.new.writers.lists c.take_out.ensures.writers_filed;
      committed = filed.committed;
    }

pub returns-clause-readers : goal.returns-clause-readers
returns-clause-readers c x u =
    let b = c.self.inside in
    let zs = c.list-touches.result.now in
    let known = subst (AreKnown (length b.cells.cells)) (sym c.list-touches.ensures) (c.self.invariant.known (c.args.t.0 - 1)) in
    let shown : reads_at (place_in b.cells.cells x) zs ≡ any_reads x (list_by (map (all_touched b.cells.cells) b.touches.lists) c.args.t.0) =
    sym (any_reads-is b.cells.cells c.self.invariant.unique x zs known) ∙ ap (λ ls. any_reads x (all_touched b.cells.cells ls)) c.list-touches.ensures
    ∙ ap (any_reads x) (sym (accesses_are b.cells.cells b.touches.lists c.args.t.0 c.requires.first)) in
    ap (is_among u) (list_of-is b.cells.cells c.take_out.new.readers.lists x) ∙ c.take_out.ensures.readers (place_in b.cells.cells x) u
    ∙ (λ j. (is_among u (sym (list_of-is b.cells.cells b.readers.lists x) j) && not (shown j && eqb c.args.t.0 u)))
    ∙ ap (λ (s : Shown). (is_accessor (readers_of s) x u && not (any_reads x (touched_of s c.args.t.0) && eqb c.args.t.0 u))) c.self.view_is

pub returns-clause-writers : goal.returns-clause-writers
returns-clause-writers c x u =
    let b = c.self.inside in
    let zs = c.list-touches.result.now in
    let known = subst (AreKnown (length b.cells.cells)) (sym c.list-touches.ensures) (c.self.invariant.known (c.args.t.0 - 1)) in
    let shown : puts_at (place_in b.cells.cells x) zs ≡ any_puts x (list_by (map (all_touched b.cells.cells) b.touches.lists) c.args.t.0) =
    sym (any_puts-is b.cells.cells c.self.invariant.unique x zs known) ∙ ap (λ ls. any_puts x (all_touched b.cells.cells ls)) c.list-touches.ensures
    ∙ ap (any_puts x) (sym (accesses_are b.cells.cells b.touches.lists c.args.t.0 c.requires.first)) in
    ap (is_among u) (list_of-is b.cells.cells c.take_out.new.writers.lists x) ∙ c.take_out.ensures.writers (place_in b.cells.cells x) u
    ∙ (λ j. (is_among u (sym (list_of-is b.cells.cells b.writers.lists x) j) && not (shown j && eqb c.args.t.0 u)))
    ∙ ap (λ (s : Shown). (is_accessor (writers_of s) x u && not (any_puts x (touched_of s c.args.t.0) && eqb c.args.t.0 u))) c.self.view_is

pub returns-clause-pending : goal.returns-clause-pending
returns-clause-pending c =
    let b = c.self.inside in
    let held = puts_among-is b.cells.cells c.list-touches.result.now in
    let all = ap puts_among (accesses_are b.cells.cells b.touches.lists c.args.t.0 c.requires.first ∙ ap (all_touched b.cells.cells) (sym c.list-touches.ensures)) in
    let was = ap (λ (s : Shown). puts_among (touched_of s c.args.t.0)) c.self.view_is in
    omega (arith, held, all, was, c.requires.puts, c.take_out.ensures.puts, ap (λ (s : Shown). s.pending) c.self.view_is)
