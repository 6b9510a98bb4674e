use Rattle.std.proofs.Common.{◌∙◌, refl, ap, length, map}
use Rattle.access_book.specs.Books.{list_by}
use Rattle.access_book.specs.Places.{all_touched}
use Rattle.access_book.proofs.Places.{nobody_of}
use Rattle.access_book.proofs.Touches.{nothing_by}
use Rattle.access_book.proofs.book.AccessBook.new.Goals as goal

pub returns : goal.returns
returns c = record {
  readers = λ x. nobody_of c.new.result.cells c.new-2.result.lists x c.new-2.ensures.lists;
  writers = λ x. nobody_of c.new.result.cells c.new-3.result.lists x c.new-3.ensures.lists;
  committed = λ x. nobody_of c.new.result.cells c.new-4.result.lists x c.new-4.ensures.lists;
  touched = λ u. ap (λ ls. list_by (map (all_touched c.new.result.cells) ls) u) c.new-5.ensures.lists ∙ nothing_by u;
  begun = ap length c.new-5.ensures.lists;
  pending = refl;
}
