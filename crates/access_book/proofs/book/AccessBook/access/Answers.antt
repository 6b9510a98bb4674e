use Rattle.std.proofs.Common.{◌∙◌, ◌<◌, length, sym, ap, subst, arith}
use Rattle.access_book.specs.declared.accesses.Access.TheVariants as access
use Rattle.access_book.specs.Books.{readers_of, writers_of, IsAccess}
use Rattle.access_book.specs.Places.{cell_at, touch_place, touched_at}
use Rattle.access_book.proofs.Places.{list_back}
use Rattle.access_book.proofs.book.AccessBook.access.Goals as goal

pub returns-in-Read : goal.returns-in-Read
returns-in-Read c =
    let b = c.self.inside in
    let p = c.in-Read.place in
    let lt : p < length b.cells.cells = omega (arith, c.requires, ap touch_place c.in-Read.is, ap (λ s. length s.cells) c.self.view_is) in
    subst (λ z. IsAccess c.args.self.now (access.Read c.list.result) (touched_at c.args.self.now.cells z)) (sym c.in-Read.is)
    (c.list.ensures ∙ sym (list_back b.cells.cells b.writers.lists c.self.invariant.unique p lt) ∙ ap (λ s. writers_of s (cell_at s.cells p)) c.self.view_is)

pub returns-in-Put : goal.returns-in-Put
returns-in-Put c =
    let b = c.self.inside in
    let p = c.in-Put.place in
    let lt : p < length b.cells.cells = omega (arith, c.requires, ap touch_place c.in-Put.is, ap (λ s. length s.cells) c.self.view_is) in
    subst (λ z. IsAccess c.args.self.now (access.Put c.list-in-Put.result) (touched_at c.args.self.now.cells z)) (sym c.in-Put.is)
    (c.list-in-Put.ensures ∙ sym (list_back b.cells.cells b.readers.lists c.self.invariant.unique p lt) ∙ ap (λ s. readers_of s (cell_at s.cells p)) c.self.view_is)
