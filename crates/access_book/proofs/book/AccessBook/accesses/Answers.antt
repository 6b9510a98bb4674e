use Rattle.std.proofs.Common.{◌∙◌, sym, ap}
use Rattle.access_book.specs.Books.{touched_of}
use Rattle.access_book.specs.Places.{all_touched}
use Rattle.access_book.proofs.Touches.{accesses_are}
use Rattle.access_book.proofs.book.AccessBook.accesses.Goals as goal

pub returns-clause-left : goal.returns-clause-left
returns-clause-left c =
    let b = c.self.inside in
    sym (ap (λ s. all_touched s.cells c.list.result.now) c.self.view_is) ∙ ap (all_touched b.cells.cells) c.list.ensures ∙ sym (accesses_are b.cells.cells b.touches.lists c.args.t.0 c.requires)
    ∙ ap (λ s. touched_of s c.args.t.0) c.self.view_is
