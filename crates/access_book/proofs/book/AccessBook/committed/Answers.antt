use Rattle.std.proofs.Common.{◌∙◌, sym, ap}
use Rattle.arena_multimap.specs.NumberedLists.{list_in}
use Rattle.access_book.specs.Books.{committed_of}
use Rattle.access_book.proofs.Places.{list_of-is}
use Rattle.access_book.proofs.book.AccessBook.committed.Goals as goal

pub returns : goal.returns
returns c =
    let b = c.self.inside in
    c.list.ensures ∙ ap (list_in b.committed.lists) c.place.ensures ∙ sym (list_of-is b.cells.cells b.committed.lists c.args.cell) ∙ ap (λ s. committed_of s c.args.cell) c.self.view_is
