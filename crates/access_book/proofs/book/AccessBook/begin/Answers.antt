use Rattle.std.proofs.Common.{◌∙◌, ap}
use Rattle.access_book.specs.Books.{touched_of}
use Rattle.access_book.proofs.Touches.{begun_by}
use Rattle.access_book.proofs.book.AccessBook.begin.Goals as goal

pub returns-clause-touched : goal.returns-clause-touched
returns-clause-touched c u = begun_by c.self.inside.cells.cells c.self.inside.touches.lists c.begin.new.self.lists c.begin.ensures.lists u ∙ ap (λ s. touched_of s u) c.self.view_is
